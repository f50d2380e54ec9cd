use Rattle.std.proofs.Common.{◌≤◌, arith}
use Rattle.page_format.specs.Header.{entries_per_page}
use Rattle.index_leaf.specs.Entries.{count_of}
use Rattle.table_pages.proofs.Nodes.{node_told}
use Rattle.table_pages.proofs.node.is_node_page.Goals as goal

pub returns : goal.returns
returns c =
    let room : count_of c.args.page.now ≤ entries_per_page = omega arith in
    node_told c.args.id c.args.page.now c.test_node.result c.bytes-bytes.ensures.length room c.test_node.ensures
