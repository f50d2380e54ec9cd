use Rattle.std.proofs.Common.{sym, ap, ◌∙◌}
use Rattle.std.specs.Prelude.{count_by}
use Rattle.cache_structure.specs.Entries.{Entry}
use Rattle.cache_structure.specs.Slots.{Table, entries_in}
use Rattle.cache_structure.proofs.Listing.{count_changed}
use Rattle.cache_structure.proofs.table.EntryTable.changed_count.Goals as goal

pub returns : goal.returns
returns c =
    c.len.ensures
    ∙ c.self.invariant.1.count
    ∙ count_changed (record { slots = c.self.inside.slots.items; pages = c.self.inside.pages.items; order = c.self.inside.order })
    ∙ ap (λ (t : Table). count_by (λ (e : Entry). e.changed) (entries_in t)) c.self.view_is
