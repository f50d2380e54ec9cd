use Rattle.std.proofs.Common.{◌≡◌, ℕ, ◌+◌, ◌<◌, Result, arith}
use Rattle.table_image_text.specs.Image.{heap_in, index_in}
use Rattle.table_copy.specs.declared.fault.CopyFault.{CopyFault}
use Rattle.table_copy.specs.declared.fault.CopyFault.TheVariants as fault
use Rattle.table_copy.proofs.Told.{handed_on}
use Rattle.copy_recover.specs.Writing.{held_names, Writes}
use Rattle.copy_recover.proofs.Page_steps.{done_none}
use Rattle.copy_recover.proofs.Steps.{held_more, held_missed, held_wanting, none_wanting, held_done}
use Rattle.copy_recover.proofs.pages.write_held.Goals as goal

pub loop-n-init : goal.loop-n-init
loop-n-init g c = done_none c.args.image.now c.args.table c.args.records.now (g.D.Disk.contents c.args.disk.now) (g.D.Disk.faults c.args.disk.now)

pub loop-n-preserved : goal.loop-n-preserved
loop-n-preserved g c =
    let heap_is : c.from-heap.result ≡ heap_in c.args.image.now = cc in
    held_more c.args.image.now c.args.table c.args.records.now c.from-heap.result c.loop-n.n c.loop-n.some _ c.in_ok-is_some.is_some c.load_held-id.result c.load_held-id.new.page _ _ _ _ _ _ heap_is c.load_held-id.ensures.name
    c.load_held-id.ensures.page c.in_ok-some.ensures c.loop-n.invariant c.in_ok-is_some.ensures

pub returns-in_err-page : goal.returns-in_err-page
returns-in_err-page g c =
    let d = g.D.Disk.contents c.args.disk.now in
    let f = g.D.Disk.faults c.args.disk.now in
    handed_on (λ (r : Result ℕ CopyFault). Writes d d f f c.args.image.now c.args.table c.args.records.now (held_names c.args.image.now c.args.table) r) fault.NoMemory c.from_residual.result c.from_residual.ensures.1
    (none_wanting c.args.image.now c.args.table c.args.records.now (held_names c.args.image.now c.args.table) d f)

pub returns-in_err-is_some : goal.returns-in_err-is_some
returns-in_err-is_some g c =
    let image = c.args.image.now in
    let heap_is : c.from-heap.result ≡ heap_in c.args.image.now = cc in
    let less : c.loop-n.n < heap_in c.args.image.now + index_in c.args.image.now = omega arith in
    handed_on
    (λ (r : Result ℕ CopyFault).
    Writes (g.D.Disk.contents c.args.disk.now) (g.D.Disk.contents c.write_page.new.disk) (g.D.Disk.faults c.args.disk.now) (g.D.Disk.faults c.write_page.new.disk) image c.args.table c.args.records.now
    (held_names image c.args.table) r)
    c.in_err-is_some.field-0.0 c.from_residual-in_err-is_some.result c.from_residual-in_err-is_some.ensures.1
    (held_missed image c.args.table c.args.records.now c.from-heap.result c.loop-n.n c.loop-n.some c.in_err-is_some.field-0.0 c.load_held-id.result c.load_held-id.new.page _ _ _ _ _ _ heap_is c.load_held-id.ensures.name
    c.load_held-id.ensures.page less c.loop-n.invariant c.in_err-is_some.ensures)

pub returns-in_err-some : goal.returns-in_err-some
returns-in_err-some g c =
    let image = c.args.image.now in
    let heap_is : c.from-heap.result ≡ heap_in c.args.image.now = cc in
    let less : c.loop-n.n < heap_in c.args.image.now + index_in c.args.image.now = omega arith in
    handed_on
    (λ (r : Result ℕ CopyFault).
    Writes (g.D.Disk.contents c.args.disk.now) (g.D.Disk.contents c.write_page.new.disk) (g.D.Disk.faults c.args.disk.now) (g.D.Disk.faults c.write_page.new.disk) image c.args.table c.args.records.now
    (held_names image c.args.table) r)
    fault.NoMemory c.from_residual-in_err-some.result c.from_residual-in_err-some.ensures.1
    (held_wanting image c.args.table c.args.records.now c.from-heap.result c.loop-n.n c.loop-n.some c.in_ok-is_some.is_some c.load_held-id.result c.load_held-id.new.page _ _ _ _ _ _ heap_is c.load_held-id.ensures.name
    c.load_held-id.ensures.page less c.loop-n.invariant c.in_ok-is_some.ensures)

pub returns : goal.returns
returns g c =
    let heap_is : c.from-heap.result ≡ heap_in c.args.image.now = cc in
    let count : c.loop-n.n ≡ heap_in c.args.image.now + index_in c.args.image.now = omega arith in
    held_done c.args.image.now c.args.table c.args.records.now c.from-heap.result c.loop-n.n c.loop-n.some _ _ _ _ heap_is count c.loop-n.invariant
