use Rattle.std.proofs.Common.{◌≡◌, ℕ, ◌≤◌, ◌<◌, false}
use Rattle.list_structure.specs.Cells.{cell_at, is_asked}
use Rattle.list_structure.proofs.cells.Cells.first_asked.Given as goal

abbrev pub invariant-loop-asker : goal.invariant-loop-asker
invariant-loop-asker l = (i : ℕ) → l.from ≤ i → i < l.asker → is_asked (cell_at l.self-inside.cells.items i l.to) ≡ false
