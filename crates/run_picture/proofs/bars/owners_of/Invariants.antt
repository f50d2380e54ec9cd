use Rattle.std.proofs.Common.{◌≡◌, vec_len}
use Rattle.run_picture.proofs.bars.owners_of.Given as goal

abbrev pub invariant-loop-span : goal.invariant-loop-span
invariant-loop-span l = vec_len l.owners ≡ l._span

abbrev pub invariant-loop-entry : goal.invariant-loop-entry
invariant-loop-entry l = vec_len l.owners ≡ l.spans
