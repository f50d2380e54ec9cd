use Rattle.group_locks.proofs.groups_step.Goals as goal
use Rattle.group_locks.proofs.Taken.{events_move}

pub returns : goal.returns
returns g c = events_move _ g.C.CacheFace.directory g.D.Disk.alive g.D.Disk.contents g.D.Disk.faults (record {
  fails = c.groups_go.ensures.fails;
  anew = c.groups_go.ensures.anew;
  phases = c.phases_go.ensures;
  member_fails = c.member_failures_go.ensures;
  steps = c.member_steps_go.ensures;
  restarts = c.member_restarts_go.ensures;
  resting = c.resting_members_go.ensures;
})
