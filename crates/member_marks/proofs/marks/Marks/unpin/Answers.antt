use Rattle.member_marks.specs.Local.{Unpin, by_one}
use Rattle.member_marks.proofs.marks.Marks.unpin.Goals as goal

pub returns-clause-reaches : goal.returns-clause-reaches
returns-clause-reaches c = by_one _ _ (Unpin c.args.at) c.set_unpinned.ensures.marks
