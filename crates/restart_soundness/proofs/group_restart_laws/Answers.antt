use Rattle.restart_soundness.proofs.Disks.{runs_leave_disks, restarts_leave_disks}
use Rattle.restart_soundness.proofs.group_restart_laws.Goals as goal

pub returns : goal.returns
returns g c = record {
  run = runs_leave_disks g.D.Disk.alive g.D.Disk.contents g.D.Disk.has_logs g.D.Disk.pages_are_bytes c.disk_laws.ensures.begin c.run_laws.ensures.run;
  restart = restarts_leave_disks g.D.Disk.alive g.D.Disk.contents g.D.Disk.has_logs g.D.Disk.pages_are_bytes c.disk_laws.ensures.begin c.run_laws.ensures.restart;
}
