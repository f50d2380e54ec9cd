use Rattle.restart_marks.specs.Moves.{TakeUpUndone, by_one}
use Rattle.restart_marks.proofs.marks.RestartMarks.take_up_undone.Goals as goal

pub returns-clause-reaches : goal.returns-clause-reaches
returns-clause-reaches c = by_one _ _ (TakeUpUndone c.args.id) c.set_undone.ensures.marks
