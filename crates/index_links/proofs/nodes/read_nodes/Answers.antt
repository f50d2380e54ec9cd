use Rattle.std.proofs.Common.{◌+◌, ◌-◌, List, ◌++◌, ap, ◌∙◌}
use Rattle.ds_base.specs.Pages.{index_page}
use Rattle.ds_base.specs.declared.names.PageId.{PageId}
use Rattle.page_chain.specs.Chains.{images_of, version_of}
use Rattle.index_links.specs.declared.nodes.Node.{Node}
use Rattle.index_links.specs.Nodes.{node_of, nodes_from}
use Rattle.index_links.proofs.Nodes_in.{nodes_more}
use Rattle.index_links.proofs.nodes.read_nodes.Goals as goal

pub loop-number-preserved : goal.loop-number-preserved
loop-number-preserved c =
    ap (λ (xs : List Node). xs ++ nodes_from (images_of c.args.records.now.records) c.args.table (c.loop-number.number + 1) (c.args.next - (c.loop-number.number + 1))) c.in_ok-push.ensures.items
    ∙ nodes_more (images_of c.args.records.now.records) c.args.table c.loop-number.number c.args.next c.loop-number.nodes.items c.in_ok-read_node.field-0 (nodes_from (images_of c.args.records.now.records) c.args.table 1 (c.args.next - 1))
    c.loop-number-test.true (c.in_ok-read_node.ensures ∙ ap (λ (q : PageId). node_of (version_of q c.args.records.now.records)) c.index_page.ensures) c.loop-number.invariant
