use Rattle.group_locks.proofs.groups_run.Goals as goal
use Rattle.group_locks.proofs.Runs.{plain_runs_stand, plain_runs_stay, runs_stand}

pub returns : goal.returns
returns g c = record {
  runs = runs_stand _ g.C.CacheFace.directory g.D.Disk.alive g.D.Disk.contents g.D.Disk.faults (record { start = c.groups_start.ensures; agree = c.claims_agree.ensures }) c.groups_step.ensures;
  plain = plain_runs_stand _ g.C.CacheFace.directory g.D.Disk.alive g.D.Disk.contents g.D.Disk.faults (record { start = c.groups_start.ensures; agree = c.claims_agree.ensures }) c.groups_step.ensures;
  stays = plain_runs_stay _ g.C.CacheFace.directory g.D.Disk.alive g.D.Disk.contents g.D.Disk.faults (record { start = c.groups_start.ensures; agree = c.claims_agree.ensures }) c.groups_step.ensures;
}
