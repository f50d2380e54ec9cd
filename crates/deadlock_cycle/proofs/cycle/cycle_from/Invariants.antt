use Rattle.deadlock_cycle.proofs.Walks.{IsRead}
use Rattle.deadlock_cycle.proofs.cycle.cycle_from.Given as goal

abbrev pub invariant-loop-at : goal.invariant-loop-at
invariant-loop-at l = IsRead l.steps l.from l.at l.cycle

abbrev pub decreases-loop-at : goal.decreases-loop-at
decreases-loop-at l = l.at
