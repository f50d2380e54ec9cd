use Rattle.std.proofs.Common.{◌+◌, ◌-◌, length}
use Rattle.deadlock_cycle.specs.Waiting.{is_waiting, pairs_left}
use Rattle.deadlock_cycle.proofs.Search.{Kept}
use Rattle.deadlock_cycle.proofs.cycle.find_cycle.Given as goal

abbrev pub invariant-loop-next : goal.invariant-loop-next
invariant-loop-next l = Kept l.waits l.tran (is_waiting l.waiters.lists) l.steps.items l.next

abbrev pub decreases-loop-next : goal.decreases-loop-next
decreases-loop-next l = pairs_left l.waiters.lists + length l.steps.items - l.next
