use Rattle.std.proofs.Common.{subst}
use Rattle.cache_structure.specs.Slots.{Table}
use Rattle.cache_structure.specs.Order.{IsNextAmong, changed_in}
use Rattle.cache_structure.proofs.Listing.{next_same}
use Rattle.cache_structure.proofs.table.EntryTable.next_changed.Goals as goal

pub returns : goal.returns
returns c =
    subst (λ (t : Table). IsNextAmong (changed_in t) c.args.after c.next.result) c.self.view_is
    (next_same (record { slots = c.self.inside.slots.items; pages = c.self.inside.pages.items; order = c.self.inside.order }) _ _ c.self.invariant.0 _ c.self.invariant.1 c.args.after c.next.result c.next.ensures)
