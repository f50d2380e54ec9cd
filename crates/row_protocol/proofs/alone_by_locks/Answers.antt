use Rattle.row_protocol.proofs.alone_by_locks.Goals as goal
use Rattle.row_protocol.proofs.Claims.{locks_give_alone}

pub returns : goal.returns
returns c = locks_give_alone
