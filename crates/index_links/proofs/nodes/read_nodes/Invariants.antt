use Rattle.std.proofs.Common.{◌≡◌, ◌++◌, ◌-◌}
use Rattle.page_chain.specs.Chains.{images_of}
use Rattle.index_links.specs.Nodes.{nodes_from}
use Rattle.index_links.proofs.nodes.read_nodes.Given as goal

abbrev pub invariant-loop-number : goal.invariant-loop-number
invariant-loop-number l = l.nodes.items ++ nodes_from (images_of l.records.records) l.table l.number (l.next - l.number) ≡ nodes_from (images_of l.records.records) l.table 1 (l.next - 1)
