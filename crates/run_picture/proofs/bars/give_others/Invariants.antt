use Rattle.std.proofs.Common.{◌≡◌, length}
use Rattle.run_picture.proofs.bars.give_others.Given as goal

abbrev pub invariant-loop-at : goal.invariant-loop-at
invariant-loop-at l = length l.given ≡ length l.fn.given
