use Rattle.std.proofs.Common.{◌≡◌, ◌≤◌, take}
use Rattle.lock_manager.specs.Tallies.{count_in}
use Rattle.lock_manager.proofs.holds.Holds.count_first.Given as goal

abbrev pub invariant-loop-place : goal.invariant-loop-place
invariant-loop-place l = (l.count ≡ count_in l.entries l.entry l.needed (take l.place l.self)) × (l.count ≤ l.place)
