use Rattle.std.proofs.Common.{take}
use Rattle.group_member.specs.Entering.{Commits}
use Rattle.group_member.proofs.fates.enter_decided.Given as goal

abbrev pub invariant-loop-slot : goal.invariant-loop-slot
invariant-loop-slot g l = Commits l.resources.marks (take l.slot-index l.resources.marks.trans.decided) l.fn.fates l.fates
