use Rattle.group_logs.proofs.rests_are_unknown.Goals as goal
use Rattle.group_logs.proofs.Known.{rests_are_unknown}

pub returns : goal.returns
returns c = rests_are_unknown c.reading_laws.ensures.again
