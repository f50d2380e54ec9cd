use Rattle.member_marks.specs.Local.{WaitFor, by_one}
use Rattle.member_marks.proofs.marks.Marks.wait_for.Goals as goal

pub returns-clause-reaches : goal.returns-clause-reaches
returns-clause-reaches c = by_one _ _ (WaitFor c.args.id) c.set_waiting.ensures.marks
