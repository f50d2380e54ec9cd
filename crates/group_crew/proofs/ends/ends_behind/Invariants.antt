use Rattle.std.proofs.Common.{◌≡◌, ◌<◌, ◌≤◌, ℕ, length}
use Rattle.checkpoint_reader.specs.Ends.{end_of}
use Rattle.group_restart.specs.Ends.{log_end}
use Rattle.group_crew.proofs.ends.ends_behind.Given as goal

abbrev pub invariant-loop-number : goal.invariant-loop-number
invariant-loop-number l = (length l.known ≡ 32) × ((member : ℕ) → 1 ≤ member → member < l.number → end_of l.known member ≡ log_end l.restart member)
