use Rattle.std.proofs.Common.{◌≡◌, vec_len}
use Rattle.run_picture.proofs.bars.zeros.Given as goal

abbrev pub invariant-loop-at : goal.invariant-loop-at
invariant-loop-at l = vec_len l.zeros ≡ l._at
