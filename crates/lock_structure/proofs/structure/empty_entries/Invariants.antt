use Rattle.std.proofs.Common.{◌≡◌, ◌≤◌, vec_len, vec_capacity, replicate}
use Rattle.lock_structure.specs.Entries.{blank}
use Rattle.lock_structure.proofs.structure.empty_entries.Given as goal

abbrev pub invariant-loop-made : goal.invariant-loop-made
invariant-loop-made l = (l.entries.items ≡ replicate l._made blank) × (vec_len l.entries ≡ l._made) × (l.count ≤ vec_capacity l.entries)
