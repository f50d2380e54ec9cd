use Rattle.heap_space.specs.Slots.{said}
use Rattle.heap_rows.specs.Maps.{rows_in}
use Rattle.heap_rows.proofs.Slots.{slot_told}
use Rattle.heap_rows.proofs.heap.slot_has.Goals as goal

pub returns : goal.returns
returns c = slot_told (rows_in c.args.rows.now c.args.table) c.args.page.now c.args.slot (said c.row.result) c.agrees.result c.agrees.ensures c.row.ensures
