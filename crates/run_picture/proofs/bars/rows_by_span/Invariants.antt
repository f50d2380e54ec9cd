use Rattle.std.proofs.Common.{◌≡◌, vec_len}
use Rattle.run_picture.proofs.bars.rows_by_span.Given as goal

abbrev pub invariant-loop-entry : goal.invariant-loop-entry
invariant-loop-entry l = vec_len l.given ≡ l.spans
