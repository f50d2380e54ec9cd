use Rattle.page_restarts.proofs.others_still_restart.Goals as goal
use Rattle.page_restarts.proofs.Leading.{others_restart}

pub returns : goal.returns
returns c = others_restart
