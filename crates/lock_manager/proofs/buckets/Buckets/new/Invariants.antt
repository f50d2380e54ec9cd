use Rattle.std.proofs.Common.{◌≡◌, ◌≤◌, vec_len, vec_capacity, [], replicate}
use Rattle.lock_manager.proofs.buckets.Buckets.new.Given as goal

abbrev pub invariant-loop-made : goal.invariant-loop-made
invariant-loop-made l = (l.made.items ≡ replicate l._made []) × (vec_len l.made ≡ l._made) × (l.chains ≤ vec_capacity l.made)
