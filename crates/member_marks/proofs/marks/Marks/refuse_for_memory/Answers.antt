use Rattle.member_marks.specs.Local.{RefuseForMemory, by_one}
use Rattle.member_marks.proofs.marks.Marks.refuse_for_memory.Goals as goal

pub returns-clause-reaches : goal.returns-clause-reaches
returns-clause-reaches c = by_one _ _ (RefuseForMemory c.args.slot) c.set_starved.ensures.marks
