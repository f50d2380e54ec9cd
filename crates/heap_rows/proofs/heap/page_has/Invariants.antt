use Rattle.std.proofs.Common.{ℕ, ◌<◌}
use Rattle.heap_rows.specs.Maps.{rows_in}
use Rattle.heap_rows.specs.Rows_left.{SlotHas}
use Rattle.heap_rows.proofs.heap.page_has.Given as goal

abbrev pub invariant-loop-slot : goal.invariant-loop-slot
invariant-loop-slot l = (s : ℕ) → s < l.slot → SlotHas (rows_in l.rows l.table) l.page s
