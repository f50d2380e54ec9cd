use Rattle.std.proofs.Common.{◌≡◌, true, take}
use Rattle.index_leaf.specs.Entries.{entries_of}
use Rattle.table_pages.specs.Nodes.{entries_fit}
use Rattle.table_pages.proofs.node.entries_fit.Given as goal

abbrev pub invariant-loop-n : goal.invariant-loop-n
invariant-loop-n l = entries_fit l.is_branch l.low l.high (take l.n (entries_of l.page)) ≡ true
