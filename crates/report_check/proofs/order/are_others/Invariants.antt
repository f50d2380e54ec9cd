use Rattle.std.proofs.Common.{drop}
use Rattle.report_check.proofs.Ordered.{GoesOn}
use Rattle.report_check.proofs.order.are_others.Given as goal

abbrev pub invariant-loop-entry : goal.invariant-loop-entry
invariant-loop-entry l = GoesOn l.entries l.last (drop l.entry-index l.entries)
