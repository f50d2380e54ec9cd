use Rattle.restart_marks.specs.Moves.{TakeUpRetained, by_one}
use Rattle.restart_marks.proofs.marks.RestartMarks.take_up_retained.Goals as goal

pub returns-clause-reaches : goal.returns-clause-reaches
returns-clause-reaches c = by_one _ _ TakeUpRetained c.set_retained.ensures.marks
