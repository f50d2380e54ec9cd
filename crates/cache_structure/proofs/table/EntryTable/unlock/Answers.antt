use Rattle.std.proofs.Common.{ap, ◌∙◌, slice_get}
use Rattle.cache_structure.specs.Slots.{slot_at, entry_in, unlocked}
use Rattle.cache_structure.specs.Entries.{cast_out}
use Rattle.cache_structure.proofs.Tables.{unlocked_in}
use Rattle.cache_structure.proofs.table.EntryTable.unlock.Goals as goal

pub returns-clause-entries : goal.returns-clause-entries
returns-clause-entries c = λ id h.
    c.put.ensures.entries id cast_out h
    (ap (λ slot. entry_in slot (slice_get c.args.self.now.pages c.args.at)) (c.unlocked.ensures ∙ ap unlocked c.slot-slot.ensures)
    ∙ unlocked_in (slot_at c.args.self.now.slots c.args.at) (slice_get c.args.self.now.pages c.args.at))
