use Rattle.std.proofs.Common.{◌≡◌, length}
use Rattle.run_picture.proofs.bars.give_rows.Given as goal

abbrev pub invariant-loop-owner : goal.invariant-loop-owner
invariant-loop-owner l = length l.given ≡ length l.fn.given
