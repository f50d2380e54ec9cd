use Rattle.std.proofs.Common.{◌≡◌, ◌+◌, length, arith}
use Rattle.cache_structure.proofs.Tables.{kept_cleared, no_entries}
use Rattle.cache_structure.proofs.Listing.{listed_none}
use Rattle.cache_structure.proofs.table.EntryTable.clear.Goals as goal

pub invariant_of-self : goal.invariant_of-self
invariant_of-self c = (
  kept_cleared (record { slots = c.self.inside.slots.items; pages = c.self.inside.pages.items; order = c.self.inside.order }) c.free_all.new.slots.items c.self.inside.index c.clear.new.self c.self.inside.used c.self.invariant.0 c.free_all.ensures.size c.free_all.ensures.free c.clear.ensures,
  listed_none c.free_all.new.slots.items c.self.inside.order c.clear-2.new.self c.free_all.ensures.free c.clear-2.ensures.none (room_is c.clear-2.ensures.room),
)
  where
    room_is : c.clear-2.new.self.room ≡ c.self.inside.changed.room + length c.self.inside.changed.listed → c.clear-2.new.self.room ≡ length c.free_all.new.slots.items
    room_is r =
        let before = c.self.invariant.1.room in
        let size = c.free_all.ensures.size in
        omega (arith, r, before, size)

pub returns-clause-entries : goal.returns-clause-entries
returns-clause-entries c = no_entries (record { slots = c.free_all.new.slots.items; pages = c.self.inside.pages.items; order = c.self.inside.order }) c.free_all.ensures.free
