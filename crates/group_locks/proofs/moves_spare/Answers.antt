use Rattle.group_locks.proofs.moves_spare.Goals as goal
use Rattle.group_locks.proofs.Sparing as sparing

pub returns : goal.returns
returns c = sparing.moves_spare c.moves_leave_others.ensures.others
