use Rattle.member_marks.proofs.laws.reaches_on.Goals as goal
use Rattle.member_marks.specs.Local.{on}

pub returns : goal.returns
returns c = on
