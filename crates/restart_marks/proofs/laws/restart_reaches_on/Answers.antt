use Rattle.restart_marks.proofs.laws.restart_reaches_on.Goals as goal
use Rattle.restart_marks.specs.Moves.{on}

pub returns : goal.returns
returns c = on
