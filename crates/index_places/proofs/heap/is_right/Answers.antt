use Rattle.std.proofs.Common.{arith}
use Rattle.table_images.specs.Stands.{Stands}
use Rattle.heap_rows.specs.Maps.{rows_in}
use Rattle.heap_rows.specs.Rows_left.{PageHas}
use Rattle.index_places.proofs.Orders.{passes}
use Rattle.index_places.proofs.Heap_pages.{outside_has}
use Rattle.index_places.proofs.heap.is_right.Goals.{then-id-eq0-via-then-id-eq0, then-id-eq0-via-else-id-eq0+then-last-id}
use Rattle.index_places.proofs.heap.is_right.Goals as goal

pub returns-then-id-eq0 : goal.returns-then-id-eq0
returns-then-id-eq0 c =
    passes (Stands c.args.last c.args.given c.args.id c.args.page.now) (PageHas (rows_in c.args.rows.now c.args.table) c.args.page.now) c.heap_page_stands.result c.heap_page_stands.ensures c.if-not-heap_page_stands.false
    (outside_has (rows_in c.args.rows.now c.args.table) c.args.last c.args.given c.args.id c.args.page.now (c.heap_page_stands.ensures.0 c.if-not-heap_page_stands.false)
    (λ from to. elim c.then-id-eq0.branch as (λ _. ⊥) [
      | then-id-eq0-via-then-id-eq0 w ↦ let first = w.if-id-eq0.true in omega (arith, first, from)
      | then-id-eq0-via-else-id-eq0+then-last-id w ↦ let behind = w.if-last-id.true in omega (arith, behind, to)
    ]))
