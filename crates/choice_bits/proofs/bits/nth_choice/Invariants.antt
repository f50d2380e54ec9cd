use Rattle.std.proofs.Common.{◌≡◌, ◌-◌, slice_get}
use Rattle.choice_bits.specs.Choices.{choices_from, choices_of}
use Rattle.choice_bits.proofs.bits.nth_choice.Given as goal

abbrev pub invariant-loop-choice : goal.invariant-loop-choice
invariant-loop-choice l = slice_get (choices_from (23 - l.choice) l.choice l.ready) l.left ≡ slice_get (choices_of l.ready) l.fn.n
