use Rattle.std.proofs.Common.{◌≡◌, ◌≤◌, vec_len, vec_capacity, [], replicate}
use Rattle.lock_structure.proofs.buckets.empty_chains.Given as goal

abbrev pub invariant-loop-made : goal.invariant-loop-made
invariant-loop-made l = (l.chains.items ≡ replicate l._made []) × (vec_len l.chains ≡ l._made) × (l.count ≤ vec_capacity l.chains)
