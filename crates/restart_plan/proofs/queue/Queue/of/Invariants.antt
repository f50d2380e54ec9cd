use Rattle.std.proofs.Common.{◌≡◌}
use Rattle.restart_plan.proofs.queue.Queue.of.Given as goal

abbrev pub invariant-loop-item : goal.invariant-loop-item
invariant-loop-item o l = l.queue ≡ l.yielded
