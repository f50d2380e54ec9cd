use Rattle.std.proofs.Common.{◌≡◌, ℕ, nat_lt, cond, length}
use Rattle.cache_structure.specs.Slots.{slot_at, freed_slot}
use Rattle.cache_structure.proofs.table.EntryTable.free_locks.Given as goal

abbrev pub invariant-loop-at : goal.invariant-loop-at
invariant-loop-at l =
    (l.self.order ≡ l.initial.self.order)
    × (l.self.pages ≡ l.initial.self.pages)
    × (length l.self.slots ≡ length l.initial.self.slots)
    × ((x : ℕ) → slot_at l.self.slots x ≡ cond (nat_lt x l.at) (freed_slot l.member (slot_at l.initial.self.slots x)) (slot_at l.initial.self.slots x))
