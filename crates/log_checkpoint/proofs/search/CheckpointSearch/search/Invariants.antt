use Rattle.std.proofs.Common.{◌≡◌, ℕ, ◌+◌, List, length, Some}
use Rattle.std.specs.Prelude.{IfSome, is_none, if◌then◌else◌}
use Rattle.log_checkpoint.specs.Backwards.{told_of, searched}
use Rattle.log_checkpoint.specs.Passed.{IsOf, HasPassed}
use Rattle.log_checkpoint.proofs.search.CheckpointSearch.search.Given as goal

-- what was told is told of what is left, and the records that were passed are the log's
abbrev pub invariant-loop-told : goal.invariant-loop-told
invariant-loop-told l = IfSome l.told (λ found. told_of l.self ≡ Some found) × ((log : List ℕ) (end : ℕ) → IsOf log end l.fn.self → IsOf log end l.self) × HasPassed l.fn.self l.self × (searched l.self ≡ searched l.fn.self)

abbrev pub decreases-loop-told : goal.decreases-loop-told
decreases-loop-told l = if is_none l.told then length l.self.hand + 1 else 0
