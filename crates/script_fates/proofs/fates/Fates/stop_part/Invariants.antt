use Rattle.script_fates.specs.Fated.{StopsOnly, is_in_phase}
use Rattle.script_fates.proofs.fates.Fates.stop_part.Given as goal

abbrev pub invariant-loop-tran : goal.invariant-loop-tran
invariant-loop-tran l = StopsOnly (is_in_phase l.phase) l.fn.self l.self
