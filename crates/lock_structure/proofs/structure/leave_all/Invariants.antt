use Rattle.std.proofs.Common.{◌≡◌, ℕ, ◌<◌, ◌≤◌, length, slice_index_or, if◌then◌else◌, ◌==◌}
use Rattle.ds_base.specs.Ids.{IsMember}
use Rattle.lock_structure.specs.Entries.{interest_in, no_interest, blank}
use Rattle.lock_structure.proofs.structure.leave_all.Given as goal

abbrev pub invariant-loop-entry : goal.invariant-loop-entry
invariant-loop-entry l =
    (length l.entry-items ≡ length l.fn.entries.items)
    × ((e : ℕ) → (slice_index_or l.entry-items e blank).version ≡ (slice_index_or l.fn.entries.items e blank).version)
    × ((k e : ℕ) → IsMember k → e < l.entry-index → interest_in (slice_index_or l.entry-items e blank) k ≡ (if k == l.member then no_interest else interest_in (slice_index_or l.fn.entries.items e blank) k))
    × ((k e : ℕ) → IsMember k → l.entry-index ≤ e → interest_in (slice_index_or l.entry-items e blank) k ≡ interest_in (slice_index_or l.fn.entries.items e blank) k)
