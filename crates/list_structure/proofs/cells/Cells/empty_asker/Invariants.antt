use Rattle.std.proofs.Common.{◌≡◌, ℕ, ◌<◌, ◌==◌, ◌&&◌, nat_lt, if◌then◌else◌}
use Rattle.list_structure.specs.Cells.{cell_at}
use Rattle.list_structure.specs.declared.query.Cell.TheVariants.{Empty}
use Rattle.list_structure.proofs.cells.Cells.empty_asker.Given as goal

abbrev pub invariant-loop-to : goal.invariant-loop-to
invariant-loop-to l = (i t : ℕ) → t < 32 → cell_at l.self i t ≡ (if (i == l.asker) && nat_lt t l.to then Empty else cell_at l.fn.self i t)
