use Rattle.group_locks.proofs.member_failures_go.Goals as goal
use Rattle.group_locks.proofs.Whole.{member_fails}

pub returns : goal.returns
returns c = member_fails (record { run = c.keeps_sound.ensures.run; begin = c.slots_stay.ensures.begin; free = c.free_slots_stay.ensures.begin; fails = c.members_fail.ensures })
