use Rattle.std.proofs.Common.{◌≤◌, ap, arith}
use Rattle.ds_base.specs.Pages.{index_page}
use Rattle.ds_base.specs.declared.names.PageId.{PageId}
use Rattle.page_chain.specs.Chains.{images_of}
use Rattle.index_places.specs.Trees.{Passes}
use Rattle.index_places.proofs.Orders.{one_more, one_wrong}
use Rattle.index_places.proofs.Index_pages.{first_wrong, all_right}
use Rattle.index_places.proofs.index.find_wrong_index_page.Goals as goal

pub returns-then-not-branch : goal.returns-then-not-branch
returns-then-not-branch c =
    first_wrong (images_of c.args.records.now.records) c.args.records.now.records c.args.table c.args.given.items c.in_ok-tree.tree c.index_page-id.result c.in_ok-tree.ensures c.requires.given
    (one_wrong (Passes c.in_ok-tree.tree c.args.table) (index_page c.args.table) (images_of c.args.records.now.records) c.loop-number.number c.index_page-id.result c.in_ok-page.page c.in_ok-passes.field-0
    (ap (λ (q : PageId). q.number) c.index_page-id.ensures) c.index_page-id.ensures c.in_ok-page.ensures c.in_ok-passes.ensures c.if-not-branch.true c.loop-number.invariant)

pub loop-number-preserved : goal.loop-number-preserved
loop-number-preserved c =
    one_more (Passes c.in_ok-tree.tree c.args.table) (index_page c.args.table) (images_of c.args.records.now.records) c.loop-number.number c.index_page-id.result c.in_ok-page.page c.in_ok-passes.field-0 c.index_page-id.ensures
    c.in_ok-page.ensures c.in_ok-passes.ensures c.if-not-branch.false c.loop-number.invariant

pub returns : goal.returns
returns c =
    let end : c.index_end-number-end.result ≤ c.loop-number.number = omega arith in
    all_right (images_of c.args.records.now.records) c.args.records.now.records c.args.table c.index_end-number-end.result c.args.given.items c.in_ok-tree.tree c.in_ok-tree.ensures c.requires.given c.index_end-number-end.ensures.past
    c.index_end-number-end.ensures.rest (λ n less. c.loop-number.invariant n (omega (arith, less, end)))
