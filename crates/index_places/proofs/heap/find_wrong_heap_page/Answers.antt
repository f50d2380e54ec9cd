use Rattle.std.proofs.Common.{◌≤◌, ap, ◌∙◌, arith}
use Rattle.ds_base.specs.Pages.{heap_page}
use Rattle.ds_base.specs.declared.names.PageId.{PageId}
use Rattle.heap_space.specs.Next.{last_page_of, given_of}
use Rattle.page_chain.specs.Chains.{images_of, version_of}
use Rattle.heap_rows.specs.Maps.{rows_in}
use Rattle.index_places.proofs.Rows_of.{rows_of}
use Rattle.index_places.proofs.Orders.{one_more, one_wrong}
use Rattle.index_places.proofs.Heap_pages.{HeapPasses, IsBy, first_wrong, all_right}
use Rattle.index_places.proofs.heap.find_wrong_heap_page.Goals as goal

pub returns-then-not-is_right : goal.returns-then-not-is_right
returns-then-not-is_right c =
    let header = c.in_ok-header.ensures ∙ ap (λ (q : PageId). version_of q c.args.records.now.records) c.heap_page.ensures in
    let by : IsBy (images_of c.args.records.now.records) c.args.records.now.records c.args.table c.last_page-last.result c.given_in-given.result c.args.rows.now =
    record { last_is = c.last_page-last.ensures ∙ ap last_page_of header; given_is = c.given_in-given.ensures ∙ ap given_of header; rows_are = rows_of c.args.records.now.range c.args.records.now.records c.args.rows.now c.args.table c.requires.rows c.requires.table }
    in
    first_wrong (images_of c.args.records.now.records) c.args.records.now.records c.args.table c.last_page-last.result c.given_in-given.result c.args.rows.now c.heap_page-id.result by
    (one_wrong (HeapPasses c.last_page-last.result c.given_in-given.result (rows_in c.args.rows.now c.args.table)) (heap_page c.args.table) (images_of c.args.records.now.records) c.loop-number.number c.heap_page-id.result c.in_ok-page.page
    c.is_right.result (ap (λ (q : PageId). q.number) c.heap_page-id.ensures) c.heap_page-id.ensures c.in_ok-page.ensures c.is_right.ensures c.if-not-is_right.true c.loop-number.invariant)

pub loop-number-preserved : goal.loop-number-preserved
loop-number-preserved c =
    one_more (HeapPasses c.last_page-last.result c.given_in-given.result (rows_in c.args.rows.now c.args.table)) (heap_page c.args.table) (images_of c.args.records.now.records) c.loop-number.number c.heap_page-id.result c.in_ok-page.page
    c.is_right.result c.heap_page-id.ensures c.in_ok-page.ensures c.is_right.ensures c.if-not-is_right.false c.loop-number.invariant

pub returns : goal.returns
returns c =
    let header = c.in_ok-header.ensures ∙ ap (λ (q : PageId). version_of q c.args.records.now.records) c.heap_page.ensures in
    let by : IsBy (images_of c.args.records.now.records) c.args.records.now.records c.args.table c.last_page-last.result c.given_in-given.result c.args.rows.now =
    record { last_is = c.last_page-last.ensures ∙ ap last_page_of header; given_is = c.given_in-given.ensures ∙ ap given_of header; rows_are = rows_of c.args.records.now.range c.args.records.now.records c.args.rows.now c.args.table c.requires.rows c.requires.table }
    in
    let end : c.heap_end-number-end.result ≤ c.loop-number.number = omega arith in
    all_right (images_of c.args.records.now.records) c.args.records.now.records c.args.table c.last_page-last.result c.given_in-given.result c.heap_end-number-end.result c.args.rows.now by c.heap_end-number-end.ensures.past
    c.heap_end-number-end.ensures.rest (λ n less. c.loop-number.invariant n (omega (arith, less, end)))
