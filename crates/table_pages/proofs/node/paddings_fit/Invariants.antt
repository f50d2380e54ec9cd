use Rattle.std.proofs.Common.{◌≡◌, true}
use Rattle.table_pages.specs.Nodes.{paddings_fit}
use Rattle.table_pages.proofs.node.paddings_fit.Given as goal

abbrev pub invariant-loop-n : goal.invariant-loop-n
invariant-loop-n l = paddings_fit l.page l.n ≡ true
