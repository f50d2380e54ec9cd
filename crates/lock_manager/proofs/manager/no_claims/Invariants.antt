use Rattle.std.proofs.Common.{◌≡◌, ◌≤◌, ◌+◌, vec_len, vec_capacity, [], replicate}
use Rattle.lock_manager.proofs.manager.no_claims.Given as goal

abbrev pub invariant-loop-made : goal.invariant-loop-made
invariant-loop-made l = (l.holders.items ≡ replicate l._made []) × (vec_len l.holders ≡ l._made) × (l.owners + l.more ≤ vec_capacity l.holders)
