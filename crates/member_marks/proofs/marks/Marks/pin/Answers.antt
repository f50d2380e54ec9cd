use Rattle.member_marks.specs.Local.{Pin, by_one}
use Rattle.member_marks.proofs.marks.Marks.pin.Goals as goal

pub returns-clause-reaches : goal.returns-clause-reaches
returns-clause-reaches c = by_one _ _ (Pin c.args.at) c.set_pinned.ensures.marks
