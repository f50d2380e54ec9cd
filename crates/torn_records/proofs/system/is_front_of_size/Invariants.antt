use Rattle.std.proofs.Common.{ℕ, ◌<◌}
use Rattle.torn_records.specs.Fronts.{IsSystemOf}
use Rattle.torn_records.proofs.Telling.{NoFront}
use Rattle.torn_records.proofs.system.is_front_of_size.Given as goal

abbrev pub invariant-loop-count : goal.invariant-loop-count
invariant-loop-count l = (k : ℕ) → k < l.count → NoFront l.bytes (IsSystemOf l.version l.size k)
