use Rattle.std.proofs.Common.{◌≤◌}
use Rattle.disk_restart.specs.Runs.{HasGone}
use Rattle.disk_restart.proofs.Steps.{Alive}
use Rattle.disk_restart.proofs.restart.run_restart.Given as goal

abbrev pub invariant-loop : goal.invariant-loop
invariant-loop g l = record {
  later : g.D.Disk.faults l.fn.disk ≤ g.D.Disk.faults l.disk;
  runs : Alive (g.D.Disk.contents l.fn.disk) l.restart (g.D.Disk.contents l.disk);
  gone : HasGone (record { alive = g.D.Disk.alive l.fn.disk; contents = g.D.Disk.contents l.fn.disk }) l.fn.restart (record { alive = g.D.Disk.alive l.disk; contents = g.D.Disk.contents l.disk }) l.restart;
}
