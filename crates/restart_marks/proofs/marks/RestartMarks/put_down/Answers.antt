use Rattle.restart_marks.specs.Moves.{PutDown, by_one}
use Rattle.restart_marks.proofs.marks.RestartMarks.put_down.Goals as goal

pub returns-clause-reaches : goal.returns-clause-reaches
returns-clause-reaches c = by_one _ _ PutDown c.set_down.ensures.marks
