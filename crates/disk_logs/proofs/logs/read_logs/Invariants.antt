use Rattle.std.proofs.Common.{◌≡◌, ◌≤◌, take, length}
use Rattle.ds_disk.specs.Contents.{Contents, WhenTold, Becomes, Same}
use Rattle.sound_disk.specs.Whole_logs.{AreWholeLogs}
use Rattle.disk_logs.specs.Looking.{AreOfSome}
use Rattle.disk_logs.proofs.logs.read_logs.Given as goal

abbrev pub invariant-loop-index : goal.invariant-loop-index
invariant-loop-index g l = record {
  told : WhenTold (g.D.Disk.contents l.fn.disk) (λ (c : Contents). AreWholeLogs 1 (take l.index c.logs) l.logs);
  some : AreOfSome l.logs;
  count : length l.logs ≡ l.index;
  same : Becomes (g.D.Disk.contents l.fn.disk) (g.D.Disk.contents l.disk) Same;
  later : g.D.Disk.faults l.fn.disk ≤ g.D.Disk.faults l.disk;
}
