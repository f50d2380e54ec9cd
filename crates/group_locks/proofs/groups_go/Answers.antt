use Rattle.group_locks.proofs.groups_go.Goals as goal
use Rattle.group_locks.proofs.Whole.{anew, group_fails}

pub returns : goal.returns
returns c = record {
  fails = group_fails;
  anew = anew (record { run = c.keeps_sound.ensures.run; begin = c.slots_stay.ensures.begin; free = c.free_slots_stay.ensures.begin; anew = c.groups_begin.ensures.begins_anew });
}
