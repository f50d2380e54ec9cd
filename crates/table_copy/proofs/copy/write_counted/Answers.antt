use Rattle.std.proofs.Common.{◌≡◌, ℕ, ◌+◌, Result, arith}
use Rattle.ds_base.specs.declared.names.Volume.{Volume}
use Rattle.ds_disk.specs.Contents.{Contents}
use Rattle.ds_disk.specs.Pages.{page_at}
use Rattle.table_image_text.specs.Image.{head_bytes, pages_bytes, image_with}
use Rattle.table_copy.specs.Looking.{TakesFront}
use Rattle.table_copy.specs.Copying.{Copies, AreCopied, HasPageFault}
use Rattle.table_copy.specs.declared.fault.CopyFault.{CopyFault}
use Rattle.table_copy.proofs.Told.{told_always, handed_on}
use Rattle.table_copy.proofs.Fronts.{wider}
use Rattle.table_copy.proofs.Steps.{around, not_given, head_given, pages_missed}
use Rattle.table_copy.proofs.copy.write_counted.Goals as goal

pub returns-in_err-give_head : goal.returns-in_err-give_head
returns-in_err-give_head g c =
    let table = c.args.table in
    let lrsn = c.args.lrsn in
    let heap = c.args.heap in
    let index = c.args.index in
    let taken = g.K.Sink.taken c.args.sink.now in
    let taken_now = g.K.Sink.taken c.give_head.new.sink in
    handed_on
    (λ (r : Result ℕ CopyFault).
    Copies (around (g.D.Disk.contents c.args.disk.now) (g.D.Disk.faults c.args.disk.now) (g.K.Sink.taken c.args.sink.now) (g.K.Sink.faults c.args.sink.now))
    (around (g.D.Disk.contents c.args.disk.now) (g.D.Disk.faults c.args.disk.now) (g.K.Sink.taken c.give_head.new.sink) (g.K.Sink.faults c.give_head.new.sink))
    (λ (x : Contents). image_with (page_at x.pages) table lrsn heap index) (λ (n : ℕ) (x : Contents). (n ≡ heap + index) × AreCopied (page_at x.pages) table heap n)
    (λ (v : Volume) (at : ℕ) (x : Contents). HasPageFault (page_at x.pages) table heap (heap + index) v at) r)
    c.in_err-give_head.field-0.0 c.from_residual.result c.from_residual.ensures.1
    (not_given {T = ℕ} (g.D.Disk.contents c.args.disk.now) (g.D.Disk.faults c.args.disk.now) taken taken_now _ _ (head_bytes table lrsn heap index) (λ (x : Contents). image_with (page_at x.pages) table lrsn heap index)
    (λ (n : ℕ) (x : Contents). (n ≡ heap + index) × AreCopied (page_at x.pages) table heap n) (λ (v : Volume) (at : ℕ) (x : Contents). HasPageFault (page_at x.pages) table heap (heap + index) v at)
    c.in_err-give_head.field-0.0
    (told_always (g.D.Disk.contents c.args.disk.now) (λ (x : Contents). TakesFront taken taken_now (head_bytes table lrsn heap index) → TakesFront taken taken_now (image_with (page_at x.pages) table lrsn heap index))
    (λ x h. wider taken taken_now (head_bytes table lrsn heap index) (pages_bytes (page_at x.pages) table heap (heap + index)) h))
    c.in_err-give_head.ensures)

pub returns-in_err-copy_pages : goal.returns-in_err-copy_pages
returns-in_err-copy_pages g c =
    let table = c.args.table in
    let lrsn = c.args.lrsn in
    let heap = c.args.heap in
    let index = c.args.index in
    handed_on
    (λ (r : Result ℕ CopyFault).
    Copies (around (g.D.Disk.contents c.args.disk.now) (g.D.Disk.faults c.args.disk.now) (g.K.Sink.taken c.args.sink.now) (g.K.Sink.faults c.args.sink.now))
    (around (g.D.Disk.contents c.copy_pages.new.disk) (g.D.Disk.faults c.copy_pages.new.disk) (g.K.Sink.taken c.copy_pages.new.sink) (g.K.Sink.faults c.copy_pages.new.sink))
    (λ (x : Contents). image_with (page_at x.pages) table lrsn heap index) (λ (n : ℕ) (x : Contents). (n ≡ heap + index) × AreCopied (page_at x.pages) table heap n)
    (λ (v : Volume) (at : ℕ) (x : Contents). HasPageFault (page_at x.pages) table heap (heap + index) v at) r)
    c.in_err-copy_pages.field-0.0 c.from_residual-in_err-copy_pages.result c.from_residual-in_err-copy_pages.ensures.1
    (pages_missed _ _ _ _ _ _ _ _ _ _ table lrsn heap index (c.from.result + c.from-2.result) c.in_err-copy_pages.field-0.0 (omega arith) c.in_ok-give_head.ensures.later c.in_ok-give_head.ensures.ok c.in_err-copy_pages.ensures)

pub returns : goal.returns
returns g c =
    head_given _ _ _ _ _ _ _ _ _ _ c.args.table c.args.lrsn c.args.heap c.args.index (c.from.result + c.from-2.result) (omega arith) c.in_ok-give_head.ensures.later c.in_ok-give_head.ensures.ok
    c.in_ok-copy_pages.ensures
