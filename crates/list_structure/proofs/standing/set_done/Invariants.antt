use Rattle.std.proofs.Common.{◌≡◌, ◌<◌, ℕ, false, nat_lt, slice_index_or}
use Rattle.list_structure.proofs.standing.set_done.Given as goal

abbrev pub invariant-loop-place : goal.invariant-loop-place
invariant-loop-place l = (k : ℕ) → k < l.place → slice_index_or l.done k false ≡ nat_lt k l.members
