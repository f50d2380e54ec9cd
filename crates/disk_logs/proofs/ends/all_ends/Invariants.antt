use Rattle.std.proofs.Common.{◌≡◌, ◌≤◌, length}
use Rattle.ds_disk.specs.Contents.{Contents, WhenTold, Becomes, Same}
use Rattle.disk_logs.proofs.Ending.{AreFirst}
use Rattle.disk_logs.proofs.ends.all_ends.Given as goal

-- the first logs are whole
abbrev pub invariant-loop-index : goal.invariant-loop-index
invariant-loop-index g l = record {
  told : WhenTold (g.D.Disk.contents l.fn.disk) (AreFirst l.index l.ends.items);
  count : length l.ends.items ≡ l.index;
  same : Becomes (g.D.Disk.contents l.fn.disk) (g.D.Disk.contents l.disk) Same;
  later : g.D.Disk.faults l.fn.disk ≤ g.D.Disk.faults l.disk;
}
