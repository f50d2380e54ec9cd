use Rattle.std.proofs.Common.{ℕ, Result, Err, inl, inr, subst, arith}
use Rattle.ds_base.specs.Pages.{heap_page, index_page}
use Rattle.ds_base.specs.declared.names.PageId.{PageId}
use Rattle.ds_base.specs.declared.names.Volume.{Volume}
use Rattle.ds_disk.specs.Contents.{Contents}
use Rattle.ds_disk.specs.Pages.{page_at}
use Rattle.table_image_text.specs.Image.{image_of}
use Rattle.table_copy.specs.Copying.{CountsTo, IsCountFault, IsCopied, IsWrong, CopiesTable}
use Rattle.table_copy.specs.declared.fault.CopyFault.{CopyFault}
use Rattle.table_copy.specs.declared.fault.CopyFault.TheVariants as fault
use Rattle.table_copy.proofs.Told.{same_on, handed_on}
use Rattle.table_copy.proofs.Steps.{around, at_once, not_read, read_before, both_counted, counted_at, table_given}
use Rattle.table_copy.proofs.copy.write_image.Goals as goal

pub returns-in_err-page : goal.returns-in_err-page
returns-in_err-page g c =
    let table = c.args.table in
    let before = around (g.D.Disk.contents c.args.disk.now) (g.D.Disk.faults c.args.disk.now) (g.K.Sink.taken c.args.sink.now) (g.K.Sink.faults c.args.sink.now) in
    handed_on (λ (r : Result ℕ CopyFault). CopiesTable table c.args.lrsn before before r) fault.NoMemory c.from_residual.result c.from_residual.ensures.1
    (at_once {T = ℕ} before (λ (x : Contents). image_of (page_at x.pages) table c.args.lrsn) (λ (n : ℕ) (x : Contents). IsCopied (page_at x.pages) table n)
    (λ (v : Volume) (at : ℕ) (x : Contents). IsWrong (page_at x.pages) table v at))

pub returns-in_err-heap : goal.returns-in_err-heap
returns-in_err-heap g c =
    let table = c.args.table in
    handed_on
    (λ (r : Result ℕ CopyFault).
    CopiesTable table c.args.lrsn (around (g.D.Disk.contents c.args.disk.now) (g.D.Disk.faults c.args.disk.now) (g.K.Sink.taken c.args.sink.now) (g.K.Sink.faults c.args.sink.now))
    (around (g.D.Disk.contents c.read_count.new.disk) (g.D.Disk.faults c.read_count.new.disk) (g.K.Sink.taken c.args.sink.now) (g.K.Sink.faults c.args.sink.now)) r)
    c.in_err-heap.field-0.0 c.from_residual-in_err-heap.result c.from_residual-in_err-heap.ensures.1
    (not_read {T = ℕ} _ _ _ _ _ _ (λ (x : Contents). image_of (page_at x.pages) table c.args.lrsn) (λ (n : ℕ) (x : Contents). IsCopied (page_at x.pages) table n) _
    (λ (v : Volume) (at : ℕ) (x : Contents). IsCountFault (page_at x.pages) c.heap_page.result v at) (λ (v : Volume) (at : ℕ) (x : Contents). IsWrong (page_at x.pages) table v at)
    c.in_err-heap.field-0.0 (λ v at x b. inl (inl (subst (λ (p : PageId). IsCountFault (page_at x.pages) p v at) c.heap_page.ensures b))) c.in_err-heap.ensures)

pub returns-in_err-index : goal.returns-in_err-index
returns-in_err-index g c =
    let table = c.args.table in
    let first = c.in_ok-heap.ensures in
    handed_on
    (λ (r : Result ℕ CopyFault).
    CopiesTable table c.args.lrsn (around (g.D.Disk.contents c.args.disk.now) (g.D.Disk.faults c.args.disk.now) (g.K.Sink.taken c.args.sink.now) (g.K.Sink.faults c.args.sink.now))
    (around (g.D.Disk.contents c.read_count-2.new.disk) (g.D.Disk.faults c.read_count-2.new.disk) (g.K.Sink.taken c.args.sink.now) (g.K.Sink.faults c.args.sink.now)) r)
    c.in_err-index.field-0.0 c.from_residual-in_err-index.result c.from_residual-in_err-index.ensures.1
    (not_read {T = ℕ} {U = ℕ} _ _ _ _ _ _ (λ (x : Contents). image_of (page_at x.pages) table c.args.lrsn) (λ (n : ℕ) (x : Contents). IsCopied (page_at x.pages) table n)
    (λ (count : ℕ) (x : Contents). CountsTo (page_at x.pages) c.index_page.result count) (λ (v : Volume) (at : ℕ) (x : Contents). IsCountFault (page_at x.pages) c.index_page.result v at)
    (λ (v : Volume) (at : ℕ) (x : Contents). IsWrong (page_at x.pages) table v at)
    c.in_err-index.field-0.0 (λ v at x b. inl (inr (subst (λ (p : PageId). IsCountFault (page_at x.pages) p v at) c.index_page.ensures b)))
    (read_before (g.D.Disk.contents c.args.disk.now) (g.D.Disk.contents c.read_count.new.disk) (g.D.Disk.contents c.read_count-2.new.disk) (g.D.Disk.faults c.args.disk.now) (g.D.Disk.faults c.read_count.new.disk)
    (g.D.Disk.faults c.read_count-2.new.disk)
    (λ (count : ℕ) (x : Contents). CountsTo (page_at x.pages) c.index_page.result count) (λ (v : Volume) (at : ℕ) (x : Contents). IsCountFault (page_at x.pages) c.index_page.result v at)
    (Err c.in_err-index.field-0.0) first.same first.later c.in_err-index.ensures))

pub returns : goal.returns
returns g c =
    let table = c.args.table in
    let first = c.in_ok-heap.ensures in
    let second = c.in_ok-index.ensures in
    table_given (g.D.Disk.contents c.args.disk.now) (g.D.Disk.contents c.read_count-2.new.disk) (g.D.Disk.contents c.write_counted.new.disk) (g.D.Disk.faults c.args.disk.now) (g.D.Disk.faults c.read_count-2.new.disk)
    (g.D.Disk.faults c.write_counted.new.disk) (g.K.Sink.taken c.args.sink.now) (g.K.Sink.taken c.write_counted.new.sink) (g.K.Sink.faults c.args.sink.now) (g.K.Sink.faults c.write_counted.new.sink)
    table c.args.lrsn c.in_ok-heap.heap c.in_ok-index.index c.write_counted.result
    (same_on (g.D.Disk.contents c.args.disk.now) (g.D.Disk.contents c.read_count.new.disk) (g.D.Disk.contents c.read_count-2.new.disk) first.same second.same) (omega (arith, first.later, second.later))
    (both_counted (g.D.Disk.contents c.args.disk.now) (g.D.Disk.contents c.read_count.new.disk) table c.in_ok-heap.heap c.in_ok-index.index first.same
    (counted_at (g.D.Disk.contents c.args.disk.now) c.heap_page.result (heap_page table 0) c.in_ok-heap.heap c.heap_page.ensures first.ok)
    (counted_at (g.D.Disk.contents c.read_count.new.disk) c.index_page.result (index_page table 0) c.in_ok-index.index c.index_page.ensures second.ok))
    c.write_counted.ensures
