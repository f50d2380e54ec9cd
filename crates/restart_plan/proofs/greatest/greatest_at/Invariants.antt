use Rattle.std.proofs.Common.{◌≡◌, drop}
use Rattle.restart_plan.specs.Greatest.{no_number, greatest_among}
use Rattle.restart_plan.proofs.greatest.greatest_at.Given as goal

abbrev pub invariant-loop-log : goal.invariant-loop-log
invariant-loop-log l = greatest_among l.greatest (drop l.log-index l.logs) ≡ greatest_among no_number l.logs
