use Rattle.std.proofs.Common.{◌≡◌, ℕ, ◌≤◌, ◌<◌, false}
use Rattle.choice_bits.specs.Choices.{has_choice}
use Rattle.group_threads.proofs.hand.choice_from.Given as goal

abbrev pub invariant-loop-choice : goal.invariant-loop-choice
invariant-loop-choice l = (k : ℕ) → l.first ≤ k → k < l.choice → has_choice l.ready k ≡ false
