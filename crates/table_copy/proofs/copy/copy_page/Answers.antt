use Rattle.std.proofs.Common.{ℕ, List, Result, subst}
use Rattle.ds_base.specs.declared.names.Volume.{Volume}
use Rattle.ds_disk.specs.Contents.{Contents}
use Rattle.ds_disk.specs.Pages.{page_at}
use Rattle.table_copy.specs.Looking.{Gives}
use Rattle.table_copy.specs.Copying.{Copies, IsPageFault, MayBeCopied}
use Rattle.table_copy.specs.declared.fault.CopyFault.{CopyFault}
use Rattle.table_copy.proofs.Told.{handed_on}
use Rattle.table_copy.proofs.Steps.{around, not_read, page_given}
use Rattle.table_copy.proofs.copy.copy_page.Goals as goal

pub returns-in_err-read_page : goal.returns-in_err-read_page
returns-in_err-read_page g c =
    let id = c.args.id in
    handed_on
    (λ (r : Result (Unit {0}) CopyFault).
    Copies (around (g.D.Disk.contents c.args.disk.now) (g.D.Disk.faults c.args.disk.now) (g.K.Sink.taken c.args.sink.now) (g.K.Sink.faults c.args.sink.now))
    (around (g.D.Disk.contents c.read_page.new.disk) (g.D.Disk.faults c.read_page.new.disk) (g.K.Sink.taken c.args.sink.now) (g.K.Sink.faults c.args.sink.now))
    (λ (x : Contents). page_at x.pages id) (λ (u : Unit {0}) (x : Contents). MayBeCopied (page_at x.pages) id) (λ (v : Volume) (at : ℕ) (x : Contents). IsPageFault (page_at x.pages) id v at) r)
    c.in_err-read_page.field-0.0 c.from_residual.result c.from_residual.ensures.1
    (not_read {T = Unit {0}} _ _ _ _ _ _ (λ (x : Contents). page_at x.pages id) (λ (u : Unit {0}) (x : Contents). MayBeCopied (page_at x.pages) id) _ _
    (λ (v : Volume) (at : ℕ) (x : Contents). IsPageFault (page_at x.pages) id v at) c.in_err-read_page.field-0.0 (λ v at x b. b) c.in_err-read_page.ensures)

pub returns : goal.returns
returns g c =
    page_given _ _ _ _ (g.K.Sink.taken c.args.sink.now) (g.K.Sink.taken c.give.new.sink) (g.K.Sink.faults c.args.sink.now) (g.K.Sink.faults c.give.new.sink) c.args.id c.read_page.new.page c.in_ok-read_page.ensures c.give.result
    (subst (λ (b : List ℕ). Gives (g.K.Sink.taken c.args.sink.now) (g.K.Sink.taken c.give.new.sink) (g.K.Sink.faults c.args.sink.now) (g.K.Sink.faults c.give.new.sink) b c.give.result) c.bytes.ensures.value c.give.ensures)
