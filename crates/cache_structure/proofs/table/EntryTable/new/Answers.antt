use Rattle.std.proofs.Common.{ap, sym, ◌∙◌, length, arith}
use Rattle.std.proofs.lemmas.List.{length-replicate}
use Rattle.cache_structure.specs.Slots.{slot_at, free_slot}
use Rattle.cache_structure.proofs.Tables.{kept_new, no_entries, free_at}
use Rattle.cache_structure.proofs.Listing.{listed_none}
use Rattle.cache_structure.proofs.table.EntryTable.new.Goals as goal

pub invariant_of-result : goal.invariant_of-result
invariant_of-result c = (
  kept_new c.args.entries _ _ _ c.ranges.entries.fits c.in_ok-zero_pages.ensures c.in_ok-free_slots.ensures c.in_ok-new.ensures.whole (omega (arith, c.in_ok-new-2.ensures)),
  listed_none _ _ _ (λ s. ap (λ slots. slot_at slots s) c.in_ok-free_slots.ensures ∙ free_at c.args.entries s) c.in_ok-new-3.ensures.none
      (c.in_ok-new-3.ensures.room ∙ sym (ap length c.in_ok-free_slots.ensures ∙ length-replicate c.args.entries free_slot)),
)

pub returns-clause-none : goal.returns-clause-none
returns-clause-none c = no_entries _ (λ s. ap (λ slots. slot_at slots s) c.in_ok-free_slots.ensures ∙ free_at c.args.entries s)
