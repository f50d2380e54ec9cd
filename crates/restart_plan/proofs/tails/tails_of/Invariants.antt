use Rattle.std.proofs.Common.{◌≡◌, ◌++◌, drop}
use Rattle.restart_plan.specs.Tails.{tails_of}
use Rattle.restart_plan.proofs.tails.tails_of.Given as goal

abbrev pub invariant-loop-log : goal.invariant-loop-log
invariant-loop-log l = l.tails ++ tails_of (drop l.log-index l.logs) ≡ tails_of l.logs
