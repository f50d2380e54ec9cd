use Rattle.std.proofs.Common.{◌≡◌, ◌≤◌, ℕ, ◌-◌, length, slice_index_or}
use Rattle.list_structure.specs.declared.query.Cell.TheVariants.{Empty}
use Rattle.facility.specs.LockCommands.{clean_version, clean_among}
use Rattle.facility.proofs.clean.Clean.among.Given as goal

abbrev pub invariant-loop-at : goal.invariant-loop-at
invariant-loop-at l = (l.clean ≡ clean_among (λ k. clean_version l.name l.mode (slice_index_or l.cells (k - 1) Empty)) l.at) × (length l.clean ≤ l.at)
