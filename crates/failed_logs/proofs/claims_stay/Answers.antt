use Rattle.failed_logs.proofs.claims_stay.Goals as goal
use Rattle.failed_logs.proofs.Claimed.{moves_leave}

pub returns : goal.returns
returns c = record { others = moves_leave c.moves_spare.ensures; begin = c.claims_tell.ensures.begin }
