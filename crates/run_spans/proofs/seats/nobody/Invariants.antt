use Rattle.std.proofs.Common.{◌≡◌, ℕ, vec_len, None, slice_index_or}
use Rattle.run_spans.proofs.seats.nobody.Given as goal

abbrev pub invariant-loop-seat : goal.invariant-loop-seat
invariant-loop-seat l = (vec_len l.numbers ≡ l._seat) × ((k : ℕ) → slice_index_or l.numbers.items k None ≡ None)
