use Rattle.std.proofs.Common.{ℕ, ◌<◌}
use Rattle.torn_records.specs.Fronts.{IsSystemIn}
use Rattle.torn_records.proofs.Telling.{NoFront}
use Rattle.torn_records.proofs.system.is_front_of_system.Given as goal

abbrev pub invariant-loop-size : goal.invariant-loop-size
invariant-loop-size l = (k : ℕ) → k < l.size → NoFront l.bytes (IsSystemIn l.version k)
