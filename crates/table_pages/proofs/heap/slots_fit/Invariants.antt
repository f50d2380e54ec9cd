use Rattle.std.proofs.Common.{◌≡◌, true}
use Rattle.table_pages.specs.Heaps.{slots_fit}
use Rattle.table_pages.proofs.heap.slots_fit.Given as goal

abbrev pub invariant-loop-slot : goal.invariant-loop-slot
invariant-loop-slot l = slots_fit l.page l.slot ≡ true
