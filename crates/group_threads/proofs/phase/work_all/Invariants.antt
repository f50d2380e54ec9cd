use Rattle.std.proofs.Common.{◌≡◌, length}
use Rattle.std.specs.Arc.{arc_value}
use Rattle.group_threads.specs.Errands.{ErrandsAt}
use Rattle.group_threads.proofs.phase.work_all.Given as goal

abbrev pub invariant-loop : goal.invariant-loop
invariant-loop g l = (length l.errands.items ≡ length l.fn.errands.items) × ErrandsAt (arc_value l.fn.stage) 1 l.errands.items
