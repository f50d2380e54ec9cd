use Rattle.std.proofs.Common.{◌≡◌, false}
use Rattle.table_pages.specs.Heaps.{slot_fits}
use Rattle.table_pages.proofs.Heaps.{slots_misfit}
use Rattle.table_pages.proofs.heap.slots_fit.Goals as goal

pub returns-then-not-slot_fits : goal.returns-then-not-slot_fits
returns-then-not-slot_fits c =
    let e : slot_fits c.args.page.now c.loop-slot.slot ≡ false = cc in
    slots_misfit c.args.page.now c.args.count c.loop-slot.slot c.loop-slot-test.true e
