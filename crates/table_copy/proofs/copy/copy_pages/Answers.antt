use Rattle.std.proofs.Common.{ℕ, Result, arith}
use Rattle.ds_base.specs.declared.names.Volume.{Volume}
use Rattle.ds_disk.specs.Contents.{Contents}
use Rattle.ds_disk.specs.Pages.{page_at}
use Rattle.table_image_text.specs.Image.{pages_bytes}
use Rattle.table_copy.specs.Copying.{Copies, AreCopied, HasPageFault}
use Rattle.table_copy.specs.declared.fault.CopyFault.{CopyFault}
use Rattle.table_copy.proofs.Told.{same_self, same_on, handed_on}
use Rattle.table_copy.proofs.Steps.{around, none_given, one_given, page_missed, all_given}
use Rattle.table_copy.proofs.copy.copy_pages.Goals as goal

pub loop-n-init : goal.loop-n-init
loop-n-init g c = record {
  told = none_given (g.D.Disk.contents c.args.disk.now) (g.K.Sink.taken c.args.sink.now) c.args.table c.args.heap;
  same = same_self (g.D.Disk.contents c.args.disk.now);
  disk_later = omega arith;
  sink_later = omega arith;
}

pub loop-n-preserved : goal.loop-n-preserved
loop-n-preserved g c =
    let held = c.loop-n.invariant in
    let one = c.in_ok-copy_page.ensures in
    record {
      told =
          one_given (g.D.Disk.contents c.args.disk.now) (g.D.Disk.contents c.loop-n.disk) _ _ _ _ _ _ _ _ c.args.table c.args.heap c.loop-n.n c.page_name.result held.same c.page_name.ensures held.told one;
      same = same_on (g.D.Disk.contents c.args.disk.now) (g.D.Disk.contents c.loop-n.disk) _ held.same one.same;
      disk_later = omega (arith, held.disk_later, one.disk_later);
      sink_later = omega (arith, held.sink_later, one.sink_later);
    }

pub returns-in_err-copy_page : goal.returns-in_err-copy_page
returns-in_err-copy_page g c =
    let held = c.loop-n.invariant in
    let table = c.args.table in
    let heap = c.args.heap in
    let count = c.args.count in
    handed_on
    (λ (r : Result (Unit {0}) CopyFault).
    Copies (around (g.D.Disk.contents c.args.disk.now) (g.D.Disk.faults c.args.disk.now) (g.K.Sink.taken c.args.sink.now) (g.K.Sink.faults c.args.sink.now))
    (around (g.D.Disk.contents c.copy_page.new.disk) (g.D.Disk.faults c.copy_page.new.disk) (g.K.Sink.taken c.copy_page.new.sink) (g.K.Sink.faults c.copy_page.new.sink))
    (λ (x : Contents). pages_bytes (page_at x.pages) table heap count) (λ (u : Unit {0}) (x : Contents). AreCopied (page_at x.pages) table heap count)
    (λ (v : Volume) (at : ℕ) (x : Contents). HasPageFault (page_at x.pages) table heap count v at) r)
    c.in_err-copy_page.field-0.0 c.from_residual.result c.from_residual.ensures.1
    (page_missed (g.D.Disk.contents c.args.disk.now) (g.D.Disk.contents c.loop-n.disk) _ (g.D.Disk.faults c.args.disk.now) (g.D.Disk.faults c.loop-n.disk) _ (g.K.Sink.taken c.args.sink.now) (g.K.Sink.taken c.loop-n.sink) _
    (g.K.Sink.faults c.args.sink.now) (g.K.Sink.faults c.loop-n.sink) _ table heap c.loop-n.n count c.page_name.result c.in_err-copy_page.field-0.0 held.same held.disk_later held.sink_later c.loop-n-test.true
    c.page_name.ensures held.told c.in_err-copy_page.ensures)

pub returns : goal.returns
returns g c =
    let held = c.loop-n.invariant in
    all_given (g.D.Disk.contents c.args.disk.now) (g.D.Disk.contents c.loop-n.disk) _ _ _ _ _ _ c.args.table c.args.heap c.loop-n.n c.args.count (omega arith) held.same held.disk_later held.sink_later held.told
