use Rattle.std.proofs.Common.{◌≡◌, drop}
use Rattle.std.specs.FinMap as finite
use Rattle.index_links.specs.Links.{rights_from}
use Rattle.index_links.proofs.links.rights_of.Given as goal

abbrev pub invariant-loop-node : goal.invariant-loop-node
invariant-loop-node l = rights_from l.table l.rights (drop l.node-index l.nodes) ≡ rights_from l.table finite.empty l.nodes
