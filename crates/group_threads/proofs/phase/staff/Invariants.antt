use Rattle.std.proofs.Common.{◌≡◌, ◌+◌, ◌≤◌, ◌++◌, length, map, vec_capacity}
use Rattle.std.specs.Arc.{arc_value}
use mathlib.Core.List.{reverse}
use Rattle.group_threads.specs.Errands.{StandAt}
use Rattle.group_threads.proofs.phase.staff.Given as goal

abbrev pub invariant-loop-desk : goal.invariant-loop-desk
invariant-loop-desk g l =
    (l.fn.desks.items ≡ l.desks.items ++ map (λ e. e.worker.desk) (reverse l.errands.items))
    × (length l.desks.items + length l.errands.items ≤ vec_capacity l.errands)
    × (vec_capacity l.desks ≡ vec_capacity l.fn.desks)
    × StandAt (arc_value l.fn.stage) (length l.desks.items + 1) (reverse l.errands.items)

abbrev pub decreases-loop-desk : goal.decreases-loop-desk
decreases-loop-desk g l = length l.desks.items
