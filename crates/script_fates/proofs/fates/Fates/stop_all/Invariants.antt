use Rattle.script_fates.specs.Fated.{Stops}
use Rattle.script_fates.proofs.fates.Fates.stop_all.Given as goal

abbrev pub invariant-loop-at : goal.invariant-loop-at
invariant-loop-at l = Stops l.fn.self l.self
