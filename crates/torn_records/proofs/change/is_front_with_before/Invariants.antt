use Rattle.std.proofs.Common.{ℕ, ◌<◌}
use Rattle.torn_records.specs.Fronts.{IsChangeIn}
use Rattle.torn_records.proofs.Telling.{NoFront}
use Rattle.torn_records.proofs.change.is_front_with_before.Given as goal

abbrev pub invariant-loop-after : goal.invariant-loop-after
invariant-loop-after l = (k : ℕ) → k < l.after → NoFront l.bytes (IsChangeIn l.version l.before k)
