use Rattle.std.proofs.Common.{◌≡◌, ◌++◌, drop}
use Rattle.restart_plan.specs.Ends.{ends_of}
use Rattle.restart_plan.proofs.ends.Ends.of.Given as goal

abbrev pub invariant-loop-log : goal.invariant-loop-log
invariant-loop-log l = l.lengths.items ++ ends_of (drop l.log-index l.logs) ≡ ends_of l.logs
