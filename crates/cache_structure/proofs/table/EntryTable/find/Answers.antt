use Rattle.std.proofs.Common.{◌≡◌, sym, ap, ◌∙◌, subst, true, None}
use Rattle.std.specs.Prelude.{IfSome}
use Rattle.std.specs.Option.{option_map_or}
use Rattle.cache_structure.specs.Slots.{Table, holds_at, entry_at, entries_in, find_slot}
use Rattle.cache_structure.specs.Entries.{entry_of}
use Rattle.cache_structure.proofs.Tables.{found, found_there}
use Rattle.cache_structure.proofs.table.EntryTable.find.Goals as goal

pub returns-clause-there : goal.returns-clause-there
returns-clause-there c =
    subst (λ (t : Table). IfSome c.find.result (λ s. holds_at t.slots s c.args.id ≡ true)) c.self.view_is
    (subst (λ r. IfSome r (λ s. holds_at c.self.inside.slots.items s c.args.id ≡ true)) (sym (c.find.ensures.place ∙ ap (λ fs. find_slot fs c.args.id) c.as_slice.ensures.value))
    (found_there _ _ _ c.self.invariant.0 c.args.id))

pub returns-clause-entry : goal.returns-clause-entry
returns-clause-entry c =
    subst (λ (t : Table). entry_of (entries_in t) c.args.id ≡ option_map_or (entry_at t) c.find.result None) c.self.view_is
    (found _ _ _ c.self.invariant.0 c.args.id
    ∙ ap (λ r. option_map_or (entry_at (record { slots = c.self.inside.slots.items; pages = c.self.inside.pages.items; order = c.self.inside.order })) r None) (sym (c.find.ensures.place ∙ ap (λ fs. find_slot fs c.args.id) c.as_slice.ensures.value)))
