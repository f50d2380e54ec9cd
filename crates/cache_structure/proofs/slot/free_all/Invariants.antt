use Rattle.std.proofs.Common.{◌≡◌, ◌<◌, ℕ, length}
use Rattle.cache_structure.specs.Slots.{slot_at, free_slot}
use Rattle.cache_structure.proofs.slot.free_all.Given as goal

abbrev pub invariant-loop-at : goal.invariant-loop-at
invariant-loop-at l =
    (length l.slots.items ≡ length l.initial.slots.items)
    × ((s : ℕ) → s < l.at → slot_at l.slots.items s ≡ free_slot)
