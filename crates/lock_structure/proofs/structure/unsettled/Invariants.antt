use Rattle.std.proofs.Common.{◌≡◌, ℕ, ◌<◌, ◌≤◌, false}
use Rattle.lock_structure.specs.Locks.{stands}
use Rattle.lock_structure.proofs.structure.unsettled.Given as goal

abbrev pub invariant-loop-number : goal.invariant-loop-number
invariant-loop-number l = (k : ℕ) → 1 ≤ k → k < l.number → stands l.entry l.member l.mode l.clean k ≡ false
