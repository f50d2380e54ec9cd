use Rattle.std.proofs.Common.{◌≡◌, ◌+◌, ◌≤◌, length, drop}
use Rattle.list_structure.specs.Waiters.{waiters_beside}
use Rattle.list_structure.proofs.pairs.others_waiting.Given as goal

abbrev pub invariant-loop-at : goal.invariant-loop-at
invariant-loop-at l = (l.count + length (waiters_beside l.tran (drop l.at l.waits)) ≡ length (waiters_beside l.tran l.waits)) × (l.count ≤ l.at)
