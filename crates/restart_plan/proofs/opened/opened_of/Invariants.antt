use Rattle.std.proofs.Common.{◌≡◌, drop}
use Rattle.restart_plan.specs.Opened.{with_logs, nothing_open}
use Rattle.restart_plan.proofs.opened.opened_of.Given as goal

abbrev pub invariant-loop-log : goal.invariant-loop-log
invariant-loop-log l = with_logs l.opened (drop l.log-index l.logs) ≡ with_logs nothing_open l.logs
