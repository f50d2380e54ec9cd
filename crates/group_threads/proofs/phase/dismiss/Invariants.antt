use Rattle.std.proofs.Common.{◌≡◌, ◌+◌, ◌≤◌, ◌++◌, length, map, vec_capacity}
use mathlib.Core.List.{reverse}
use Rattle.group_threads.proofs.phase.dismiss.Given as goal

abbrev pub invariant-loop-errand : goal.invariant-loop-errand
invariant-loop-errand g l =
    (map (λ e. e.worker.desk) l.fn.errands.items ≡ l.desks.items ++ map (λ e. e.worker.desk) (reverse l.errands.items))
    × (length l.desks.items + length l.errands.items ≤ vec_capacity l.desks)

abbrev pub decreases-loop-errand : goal.decreases-loop-errand
decreases-loop-errand g l = length l.errands.items
