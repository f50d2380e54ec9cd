use Rattle.rested_logs.proofs.locked_runs.Goals as goal
use Rattle.rested_logs.proofs.Runs.{Facts, locked_runs}

pub returns : goal.returns
returns g c = locked_runs g.C.CacheFace.directory g.D.Disk.alive g.D.Disk.contents g.D.Disk.faults (record {
  keep = c.events_keep.ensures;
  knowing = c.knowing_runs.ensures;
  logs = c.groups_log.ensures;
  starts = c.known_starts.ensures;
  has_logs = g.D.Disk.has_logs;
  bytes = g.D.Disk.pages_are_bytes;
  run = c.group_restart_laws.ensures.run;
  restart = c.group_restart_laws.ensures.restart;
  know = c.logs_claimed.ensures.know;
  fresh = c.logs_claimed.ensures.fresh;
  anew = c.groups_go.ensures.anew;
  leave = c.logs_leave_closed.ensures.groups;
  rests = c.logs_rest.ensures.logs;
  stand = c.logs_rest.ensures.anew;
  below = c.rests_count.ensures.below;
  ends = c.rests_count.ensures.ends;
})
