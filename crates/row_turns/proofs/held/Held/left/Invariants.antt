use Rattle.std.proofs.Common.{◌≡◌, drop}
use Rattle.std.specs.FinMap as finite
use Rattle.row_turns.specs.States.{left_among}
use Rattle.row_turns.proofs.held.Held.left.Given as goal

abbrev pub invariant-loop-table : goal.invariant-loop-table
invariant-loop-table l = left_among l.self l.left (drop l.table-index l.table-items) ≡ left_among l.self finite.empty l.table-items
