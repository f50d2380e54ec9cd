use Rattle.std.proofs.Common.{◌<◌, ◌≤◌, arith}
use Rattle.index_places.proofs.Index_pages.{node_told}
use Rattle.index_places.proofs.index.passes.Goals as goal

pub returns : goal.returns
returns c =
    let from : 1 ≤ c.args.id.number = omega arith in
    let to : c.args.id.number < c.args.tree.now.next = omega arith in
    node_told c.args.tree.now c.args.table c.args.id c.args.page.now c.node_passes.result (c.index_page_stands.ensures.0 c.if-not-index_page_stands.false) c.if-not-tree.false from to c.node_passes.ensures
