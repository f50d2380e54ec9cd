use Rattle.script_fates.specs.Fated.{StopsOnly, is_in_part}
use Rattle.script_fates.proofs.fates.Fates.stop_member.Given as goal

abbrev pub invariant-loop-at : goal.invariant-loop-at
invariant-loop-at l = StopsOnly (is_in_part l.phase l.fn.member) l.fn.self l.self
