use Rattle.std.proofs.Common.{◌≡◌}
use Rattle.restart_plan.specs.Values.{values}
use Rattle.restart_plan.proofs.falling.values.Given as goal

abbrev pub invariant-loop-value : goal.invariant-loop-value
invariant-loop-value o l = l.queue ≡ values l.yielded
