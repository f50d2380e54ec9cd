use Rattle.group_locks.proofs.claims_agree.Goals as goal
use Rattle.group_locks.proofs.Agreeing.{tied_agree}

pub returns : goal.returns
returns c = tied_agree c.claims_give.ensures.gives
