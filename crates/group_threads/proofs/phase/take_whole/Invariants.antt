use Rattle.std.proofs.Common.{◌≡◌}
use Rattle.std.specs.Arc.{arc_value}
use Rattle.group_threads.proofs.phase.take_whole.Given as goal

abbrev pub invariant-loop : goal.invariant-loop
invariant-loop g l = arc_value l.stage ≡ arc_value l.fn.stage
