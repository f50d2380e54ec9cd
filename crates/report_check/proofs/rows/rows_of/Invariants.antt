use Rattle.std.proofs.Common.{◌≡◌, take}
use Rattle.report_check.proofs.Keeping.{rows_so_far}
use Rattle.report_check.proofs.rows.rows_of.Given as goal

abbrev pub invariant-loop-item : goal.invariant-loop-item
invariant-loop-item l = l.rows ≡ rows_so_far (take l.item-index l.item-items)
