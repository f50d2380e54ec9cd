use Rattle.std.proofs.Common.{ap, ◌∙◌, slice_get}
use Rattle.cache_structure.specs.Slots.{slot_at, entry_in, locked_for}
use Rattle.cache_structure.specs.Entries.{locked_by}
use Rattle.cache_structure.proofs.Tables.{locked_in}
use Rattle.cache_structure.proofs.table.EntryTable.lock.Goals as goal

pub returns-clause-entries : goal.returns-clause-entries
returns-clause-entries c = λ id h.
    c.put.ensures.entries id (locked_by c.args.member) h
    (ap (λ slot. entry_in slot (slice_get c.args.self.now.pages c.args.at)) (c.locked_for.ensures ∙ ap (locked_for c.args.member) c.slot-slot.ensures)
    ∙ locked_in (slot_at c.args.self.now.slots c.args.at) (slice_get c.args.self.now.pages c.args.at) c.args.member)
