use Rattle.std.proofs.Common.{◌≡◌, ◌++◌, drop, filter}
use Rattle.index_leaf.specs.Entries.{entries_of}
use Rattle.tran_core.specs.Looks.{between, is_between}
use Rattle.tran_core.proofs.rows.entries_between.Given as goal

-- what was found, and what is found from here on
abbrev pub invariant-loop-at : goal.invariant-loop-at
invariant-loop-at l = l.entries.items ++ filter (is_between l.low l.high) (drop l.at (entries_of l.page)) ≡ between l.low l.high l.page
