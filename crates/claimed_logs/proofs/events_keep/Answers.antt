use Rattle.claimed_logs.proofs.events_keep.Goals as goal
use Rattle.claimed_logs.proofs.Taken.{events_keep}

pub returns : goal.returns
returns g c = events_keep _ g.C.CacheFace.directory g.D.Disk.alive g.D.Disk.contents g.D.Disk.faults g.D.Disk.logs_are_bytes (record {
  fails = c.groups_go.ensures.fails;
  phases = c.phases_go.ensures;
  steps = c.member_steps_go.ensures;
  restarts = c.member_restarts_go.ensures;
  rests = c.resting_members_go.ensures;
  logs = c.members_log.ensures.comes;
  found = c.adoptions_found.ensures;
  know = c.logs_claimed.ensures.know;
  group_fails = c.logs_claimed.ensures.fails;
  phases_logged = c.phases_logged.ensures;
  up = c.events_logged.ensures.up;
  restart = c.events_logged.ensures.restart;
  resting = c.events_logged.ensures.resting;
  up_fails = c.failures_logged.ensures.up;
  restart_fails = c.failures_logged.ensures.restart;
  handed_fails = c.failures_logged.ensures.handed;
  stop = c.restarts_stop.ensures.stops;
  leave = c.failures_leave.ensures;
  left = c.closings_tell.ensures.left;
  stops_below = c.restarts_stop.ensures.below;
  rests_below = c.restarts_stop.ensures.rests;
  nothing = c.rests_tell.ensures.none;
  begins = c.known_ends.ensures.begins;
  members = c.known_ends.ensures.members;
  unknown = c.rests_are_unknown.ensures;
})
