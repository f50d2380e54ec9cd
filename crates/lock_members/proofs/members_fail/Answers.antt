use Rattle.lock_members.proofs.members_fail.Goals as goal
use Rattle.lock_members.proofs.Failing.{failures_go}

pub returns : goal.returns
returns c = failures_go c.failures_are_moves.ensures.fails
