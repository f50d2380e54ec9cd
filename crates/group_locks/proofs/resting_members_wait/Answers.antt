use Rattle.group_locks.proofs.resting_members_wait.Goals as goal
use Rattle.group_locks.proofs.Idle.{restings_wait_none}

pub returns : goal.returns
returns c = restings_wait_none
