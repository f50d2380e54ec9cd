use Rattle.member_marks.specs.Local.{Postpone, by_one}
use Rattle.member_marks.proofs.marks.Marks.postpone.Goals as goal

pub returns-clause-reaches : goal.returns-clause-reaches
returns-clause-reaches c = by_one _ _ (Postpone c.args.slot) c.set_postponed.ensures.marks
