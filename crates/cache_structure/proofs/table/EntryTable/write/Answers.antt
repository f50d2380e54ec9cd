use Rattle.std.proofs.Common.{◌≡◌, ◌<◌, sym, ap, ◌∙◌, subst, true, length, slice_set}
use Rattle.cache_structure.specs.declared.slot.Slot.{Slot}
use Rattle.cache_structure.specs.Slots.{Table, holds_at, slot_at, entries_in, rewritten}
use Rattle.cache_structure.specs.Entries.{at_entry, written_with}
use Rattle.cache_structure.proofs.Tables.{kept_put, kept_stored, write_entries, slot_read}
use Rattle.cache_structure.proofs.table.EntryTable.write.Goals as goal

pub invariant_of-self : goal.invariant_of-self
invariant_of-self c =
    let p = c.self.inside in (
      kept_stored (record { slots = p.slots.items; pages = p.pages.items; order = p.order }) _ _ c.self.invariant.0 c.args.at c.copy_page.new.into,
      c.self.invariant.1,
    )

pub put-requires-clause-page : goal.put-requires-clause-page
put-requires-clause-page c =
    let p = c.self.inside in
    let l : c.args.at < length p.slots.items = subst (λ (t : Table). c.args.at < length t.slots) (sym c.self.view_is) c.requires in
    ap (λ (slot : Slot). slot.page) (c.rewritten.ensures ∙ ap rewritten (slot_read p.slots.items c.args.at c.index.result.now l c.index.ensures))

pub returns-clause-entries : goal.returns-clause-entries
returns-clause-entries c = λ id h.
    let p = c.self.inside in
    let l : c.args.at < length p.slots.items = subst (λ (t : Table). c.args.at < length t.slots) (sym c.self.view_is) c.requires in
    let is : c.rewritten.result ≡ rewritten (slot_at p.slots.items c.args.at) = c.rewritten.ensures ∙ ap rewritten (slot_read p.slots.items c.args.at c.index.result.now l c.index.ensures) in
    ap entries_in c.put.ensures.slots
    ∙ (λ i. entries_in (record { slots = slice_set p.slots.items c.args.at (is i); pages = slice_set p.pages.items c.args.at (c.copy_page.ensures i); order = p.order }))
    ∙ write_entries (record { slots = c.self.inside.slots.items; pages = c.self.inside.pages.items; order = c.self.inside.order }) _ _ c.self.invariant.0 c.args.at id c.args.from.now l (subst (λ (t : Table). holds_at t.slots c.args.at id ≡ true) (sym c.self.view_is) h)
    ∙ ap (λ (t : Table). at_entry id (written_with c.args.from.now) (entries_in t)) c.self.view_is
