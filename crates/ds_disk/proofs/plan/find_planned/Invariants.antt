use Rattle.std.proofs.Common.{◌≡◌, drop}
use Rattle.ds_disk.specs.Conditions.{planned}
use Rattle.ds_disk.proofs.plan.find_planned.Given as goal

abbrev pub invariant-loop-failure : goal.invariant-loop-failure
invariant-loop-failure l = planned l.call l.number (drop l.failure-index l.failures) ≡ planned l.call l.number l.failures
