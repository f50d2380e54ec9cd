use Rattle.std.proofs.Common.{◌≡◌, ◌≤◌, vec_len, vec_capacity, replicate}
use Rattle.lock_manager.proofs.tally.zeros.Given as goal

abbrev pub invariant-loop-made : goal.invariant-loop-made
invariant-loop-made l = (l.zeros.items ≡ replicate l._made 0) × (vec_len l.zeros ≡ l._made) × (l.count ≤ vec_capacity l.zeros)
