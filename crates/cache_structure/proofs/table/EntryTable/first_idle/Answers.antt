use Rattle.std.proofs.Common.{◌≡◌, ◌<◌, ℕ, Bool, ap, ◌∙◌, subst, length, None}
use Rattle.std.specs.Prelude.{IfSome, find}
use Rattle.std.specs.Option.{option_map_or}
use Rattle.page_index.specs.Uses.{may_take}
use Rattle.cache_structure.specs.Slots.{Table, entry_at, entries_in, is_idle_slot}
use Rattle.cache_structure.specs.Entries.{is_idle}
use Rattle.cache_structure.proofs.Tables.{idle, idle_same}
use Rattle.cache_structure.proofs.table.EntryTable.first_idle.Goals as goal

pub returns-clause-entry : goal.returns-clause-entry
returns-clause-entry c =
    let t = c.self.inside in
    subst (λ (t : Table). find is_idle (entries_in t) ≡ option_map_or (entry_at t) c.first_to_take.result None) c.self.view_is
    (idle _ _ _ c.self.invariant.0 c.first_to_take.result
    (c.first_to_take.ensures.place ∙ ap (λ fs. find (may_take is_idle_slot fs) t.order) c.as_slice.ensures.value ∙ ap (λ (p : ℕ → Bool). find p t.order) (λ i f. idle_same t.slots.items f i)))

pub returns-clause-there : goal.returns-clause-there
returns-clause-there c =
    subst (λ (t : Table). IfSome c.first_to_take.result (λ f. f < length t.slots)) c.self.view_is
    (c.first_to_take.ensures.there (length c.self.inside.slots.items) c.self.invariant.0.whole)
