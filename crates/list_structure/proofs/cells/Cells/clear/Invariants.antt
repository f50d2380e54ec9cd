use Rattle.std.proofs.Common.{◌≡◌, ℕ, ◌<◌}
use Rattle.list_structure.specs.Cells.{cell_at}
use Rattle.list_structure.specs.declared.query.Cell.TheVariants.{Empty}
use Rattle.list_structure.proofs.cells.Cells.clear.Given as goal

abbrev pub invariant-loop-asker : goal.invariant-loop-asker
invariant-loop-asker l = (i t : ℕ) → i < l.asker → t < 32 → cell_at l.self i t ≡ Empty
