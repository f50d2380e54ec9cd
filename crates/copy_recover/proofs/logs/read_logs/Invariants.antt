use Rattle.std.proofs.Common.{◌≤◌}
use Rattle.ds_disk.specs.Contents.{WhenTold, Becomes, Same}
use Rattle.copy_recover.proofs.Log_steps.{AreFirst}
use Rattle.copy_recover.proofs.logs.read_logs.Given as goal

abbrev pub invariant-loop-n : goal.invariant-loop-n
invariant-loop-n g l = record {
  told : WhenTold (g.D.Disk.contents l.fn.disk) (AreFirst l.n l.logs);
  same : Becomes (g.D.Disk.contents l.fn.disk) (g.D.Disk.contents l.disk) Same;
  later : g.D.Disk.faults l.fn.disk ≤ g.D.Disk.faults l.disk;
}
