use Rattle.page_restarts.proofs.own_still_restarts.Goals as goal
use Rattle.page_restarts.proofs.Leading.{own_restarts}

pub returns : goal.returns
returns c = own_restarts
