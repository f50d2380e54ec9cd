use Rattle.member_effects.specs.Cycles.{NoneBelow}
use Rattle.member_effects.proofs.cycles.first_cycle.Given as goal

abbrev pub invariant-loop-slot : goal.invariant-loop-slot
invariant-loop-slot l = NoneBelow l.marks l.waits l.slots l.slot
