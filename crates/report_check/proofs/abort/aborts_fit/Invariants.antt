use Rattle.std.proofs.Common.{drop}
use Rattle.report_check.specs.Reports.{AbortFits}
use Rattle.report_check.proofs.Leaving.{Leaves}
use Rattle.report_check.proofs.abort.aborts_fit.Given as goal

abbrev pub invariant-loop-entry : goal.invariant-loop-entry
invariant-loop-entry l = Leaves AbortFits l.entries (drop l.entry-index l.entries)
