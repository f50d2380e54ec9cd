use Rattle.std.proofs.Common.{◌≡◌, ℕ, vec_len, slice_index}
use Rattle.run_spans.proofs.member_places.zeros.Given as goal

abbrev pub invariant-loop-member : goal.invariant-loop-member
invariant-loop-member l = (vec_len l.places ≡ l._member) × ((k : ℕ) → slice_index l.places.items k ≡ 0)
