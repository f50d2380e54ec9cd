use Rattle.std.proofs.Common.{ℕ, ◌<◌}
use Rattle.torn_records.specs.Fronts.{HasStateBefore}
use Rattle.torn_records.proofs.Telling.{NoFront}
use Rattle.torn_records.proofs.change.is_front_of_changes.Given as goal

abbrev pub invariant-loop-before : goal.invariant-loop-before
invariant-loop-before l = (k : ℕ) → k < l.before → NoFront l.bytes (HasStateBefore l.version k)
