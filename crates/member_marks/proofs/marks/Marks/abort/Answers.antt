use Rattle.member_marks.specs.Local.{Abort, by_one}
use Rattle.member_marks.proofs.marks.Marks.abort.Goals as goal

pub returns-clause-reaches : goal.returns-clause-reaches
returns-clause-reaches c = by_one _ _ (Abort c.args.slot) c.set_aborted.ensures.marks
