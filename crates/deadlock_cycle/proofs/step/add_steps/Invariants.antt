use Rattle.std.proofs.Common.{◌≡◌, ◌++◌, take, map}
use Rattle.deadlock_cycle.specs.Steps.{step_to}
use Rattle.deadlock_cycle.proofs.step.add_steps.Given as goal

abbrev pub invariant-loop-waiter : goal.invariant-loop-waiter
invariant-loop-waiter l = l.steps.items ≡ l.fn.steps.items ++ map (step_to l.next) (take l.waiter-index l.waiters)
