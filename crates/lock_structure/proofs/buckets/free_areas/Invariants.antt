use Rattle.std.proofs.Common.{◌≡◌, ℕ, ◌<◌, ◌≤◌, vec_len, vec_capacity, slice_index_or, if◌then◌else◌, ◌==◌}
use Rattle.lock_structure.specs.Buckets.{no_room, all_free}
use Rattle.lock_structure.proofs.buckets.free_areas.Given as goal

abbrev pub invariant-loop-area : goal.invariant-loop-area
invariant-loop-area l = (vec_len l.areas ≡ l.area) × (33 ≤ vec_capacity l.areas) × ((k : ℕ) → k < l.area → slice_index_or l.areas.items k no_room ≡ all_free (if k == 0 then l.records else l.pages))
