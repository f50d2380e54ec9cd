use Rattle.group_locks.proofs.groups_start.Goals as goal
use Rattle.group_locks.proofs.Beginning.{begins}

pub returns : goal.returns
returns c = begins (record { start = c.keeps_sound.ensures.start; begin = c.slots_stay.ensures.begin; free = c.free_slots_stay.ensures.begin; starts = c.groups_begin.ensures.starts })
