use Rattle.log_opens.proofs.opens_are_allowed.Goals as goal
use Rattle.log_opens.proofs.Allowed.{opens_are_allowed}

pub returns : goal.returns
returns c = opens_are_allowed
