use Rattle.script_fates.specs.Fated.{StopsOnly, is_in_phase}
use Rattle.script_fates.proofs.fates.Fates.stop_phase.Given as goal

abbrev pub invariant-loop-at : goal.invariant-loop-at
invariant-loop-at l = StopsOnly (is_in_phase l.phase) l.fn.self l.self
