use Rattle.page_recoveries.proofs.events_go.Goals as goal
use Rattle.page_recoveries.proofs.Taken as taken

pub returns : goal.returns
returns g c = taken.events_go _ g.C.CacheFace.directory g.D.Disk.alive g.D.Disk.contents g.D.Disk.faults (record {
  fails = c.groups_fail.ensures;
  phases = c.phases_go.ensures;
  member_fails = c.member_failures_go.ensures;
  steps = c.member_steps_go.ensures;
  restarts = c.member_restarts_go.ensures;
  rests = c.resting_members_go.ensures;
})
