use Rattle.std.proofs.Common.{◌≡◌, ◌<◌, ap, ◌∙◌, false, length, nat_lt, arith}
use Rattle.std.proofs.lemmas.List.{length-set}
use Rattle.cache_structure.specs.Slots.{Table, slot_at, freed_slot}
use Rattle.cache_structure.proofs.Tables.{freed_step, freed_entries, all_freed}
use Rattle.cache_structure.proofs.table.EntryTable.free_locks.Goals as goal

pub loop-at-preserved : goal.loop-at-preserved
loop-at-preserved c =
    let i = c.loop-at.invariant in
    let is = c.put.ensures.slots in
    let size = c.size-at-end.ensures in
    let test = c.loop-at-test.true in
    let long = i.2 in
    let lt : c.loop-at.at < length c.loop-at.self.slots = omega (arith, size, test, long) in (
      ap (λ (t : Table). t.order) is ∙ i.0,
      ap (λ (t : Table). t.pages) is ∙ i.1,
      ap (λ (t : Table). length t.slots) is ∙ length-set c.loop-at.self.slots c.loop-at.at c.freed.result ∙ i.2,
      λ x. ap (λ (t : Table). slot_at t.slots x) is
          ∙ freed_step c.loop-at.self.slots c.args.self.now.slots c.args.member c.loop-at.at c.freed.result lt i.3 (c.freed.ensures ∙ ap (freed_slot c.args.member) c.slot-slot.ensures) x,
    )

pub returns-clause-entries : goal.returns-clause-entries
returns-clause-entries c =
    let i = c.loop-at.invariant in
    let size = c.size-at-end.ensures in
    let test = c.loop-at-test.false in
    let past : nat_lt c.loop-at.at (length c.args.self.now.slots) ≡ false = grind (arith, size, test) in
    freed_entries c.args.self.now c.loop-at.self c.args.member i.0 i.1 (all_freed c.loop-at.self.slots c.args.self.now.slots c.args.member c.loop-at.at past i.3)
