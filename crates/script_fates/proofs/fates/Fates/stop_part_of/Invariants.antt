use Rattle.script_fates.specs.Fated.{StopsOnly, is_in_part}
use Rattle.script_fates.proofs.fates.Fates.stop_part_of.Given as goal

abbrev pub invariant-loop-tran : goal.invariant-loop-tran
invariant-loop-tran l = StopsOnly (is_in_part l.phase l.fn.member) l.fn.self l.self
