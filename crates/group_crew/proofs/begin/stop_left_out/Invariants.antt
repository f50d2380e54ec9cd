use Rattle.script_fates.specs.Fated.{StopsOnly}
use Rattle.group_crew.specs.Beginning.{is_left_out_in}
use Rattle.group_crew.proofs.begin.stop_left_out.Given as goal

abbrev pub invariant-loop-part : goal.invariant-loop-part
invariant-loop-part l = StopsOnly (is_left_out_in l.phase l.lists.statuses) l.fn.fates l.fates
