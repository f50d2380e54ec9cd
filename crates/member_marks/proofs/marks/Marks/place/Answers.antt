use Rattle.member_marks.specs.Local.{Place, by_one}
use Rattle.member_marks.proofs.marks.Marks.place.Goals as goal

pub returns-clause-reaches : goal.returns-clause-reaches
returns-clause-reaches c = by_one _ _ (Place c.args.page) c.set_placed.ensures.marks
