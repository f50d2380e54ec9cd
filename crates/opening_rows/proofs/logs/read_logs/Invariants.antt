use Rattle.std.proofs.Common.{◌≤◌}
use Rattle.ds_disk.specs.Contents.{WhenTold, Becomes, Same}
use Rattle.opening_rows.proofs.Told.{AreFirst}
use Rattle.opening_rows.proofs.logs.read_logs.Given as goal

abbrev pub invariant-loop-n : goal.invariant-loop-n
invariant-loop-n g l =
    WhenTold (g.D.Disk.contents l.fn.disk) (AreFirst l.n l.logs.items)
    × Becomes (g.D.Disk.contents l.fn.disk) (g.D.Disk.contents l.disk) Same
    × (g.D.Disk.faults l.fn.disk ≤ g.D.Disk.faults l.disk)
