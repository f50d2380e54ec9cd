use Rattle.log_opens.proofs.opens_are_all.Goals as goal
use Rattle.log_opens.proofs.Opens.{opens_are_all}

pub returns : goal.returns
returns c = opens_are_all c.both_tell.ensures
