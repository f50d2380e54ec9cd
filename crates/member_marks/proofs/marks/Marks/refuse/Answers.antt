use Rattle.member_marks.specs.Local.{Refuse, by_one}
use Rattle.member_marks.proofs.marks.Marks.refuse.Goals as goal

pub returns-clause-reaches : goal.returns-clause-reaches
returns-clause-reaches c = by_one _ _ (Refuse c.args.slot) c.set_refused.ensures.marks
