use Rattle.member_marks.specs.Local.{Reaches}
use Rattle.member_core.proofs.grants.give_reader_frames.Given as goal

abbrev pub invariant-loop : goal.invariant-loop
invariant-loop l = Reaches l.fn.marks l.marks
