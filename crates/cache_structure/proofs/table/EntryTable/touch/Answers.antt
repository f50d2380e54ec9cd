use Rattle.std.proofs.Common.{◌≡◌, ◌<◌, sym, ap, ◌∙◌, subst, true, length}
use Rattle.std.specs.Option.{option_map_or}
use Rattle.cache_structure.specs.Slots.{Table, holds_at, entry_at, entries_in}
use Rattle.cache_structure.specs.Entries.{newest}
use Rattle.cache_structure.proofs.Tables.{touched, kept_touched}
use Rattle.cache_structure.proofs.Listing.{listed_last}
use Rattle.cache_structure.proofs.table.EntryTable.touch.Goals as goal

pub invariant_of-self : goal.invariant_of-self
invariant_of-self c =
    let l : c.args.at < length c.self.inside.slots.items = subst (λ (t : Table). c.args.at < length t.slots) (sym c.self.view_is) c.requires in (
      kept_touched _ _ _ c.self.invariant.0 c.args.at c.make_newest.new.self l c.make_newest.ensures.distinct c.make_newest.ensures.order
          (c.make_newest.ensures.whole (length c.self.inside.slots.items) l c.self.invariant.0.whole),
      listed_last c.self.inside.slots.items c.self.inside.order c.make_newest.new.self c.self.inside.changed c.args.at c.self.invariant.1 c.make_newest.ensures.distinct (c.self.invariant.0.whole.covers c.args.at l) c.make_newest.ensures.order,
    )

pub returns-clause-entries : goal.returns-clause-entries
returns-clause-entries c = λ id h.
    touched _ _ _ c.self.invariant.0 c.args.at c.make_newest.new.self id (subst (λ (t : Table). holds_at t.slots c.args.at id ≡ true) (sym c.self.view_is) h) c.make_newest.ensures.order
    ∙ ap (λ (t : Table). option_map_or (λ e. newest e (entries_in t)) (entry_at t c.args.at) (entries_in t)) c.self.view_is
