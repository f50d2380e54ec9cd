use Rattle.std.proofs.Common.{◌≡◌, ℕ, ◌<◌, ◌==◌, ◌&&◌, nat_lt, if◌then◌else◌}
use Rattle.list_structure.specs.Cells.{cell_at}
use Rattle.list_structure.specs.declared.query.Cell.TheVariants.{Empty}
use Rattle.list_structure.proofs.cells.Cells.empty_asked.Given as goal

abbrev pub invariant-loop-asker : goal.invariant-loop-asker
invariant-loop-asker l = (i t : ℕ) → t < 32 → cell_at l.self i t ≡ (if (t == l.to) && nat_lt i l.asker then Empty else cell_at l.fn.self i t)
