use Rattle.restart_marks.specs.Moves.{Close, by_one}
use Rattle.restart_marks.proofs.marks.RestartMarks.close.Goals as goal

pub returns-clause-reaches : goal.returns-clause-reaches
returns-clause-reaches c = by_one _ _ (Close c.args.id) c.set_closed.ensures.marks
