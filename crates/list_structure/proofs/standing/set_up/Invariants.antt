use Rattle.std.proofs.Common.{◌≡◌, ◌<◌, ℕ, nat_lt, slice_index_or, if◌then◌else◌}
use Rattle.list_structure.specs.declared.standing.MemberStatus.TheVariants.{Down, Up}
use Rattle.list_structure.proofs.standing.set_up.Given as goal

abbrev pub invariant-loop-place : goal.invariant-loop-place
invariant-loop-place l = (k : ℕ) → k < l.place → slice_index_or l.statuses k Down ≡ (if nat_lt k l.members then Up else Down)
