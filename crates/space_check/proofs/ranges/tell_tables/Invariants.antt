use Rattle.std.proofs.Common.{◌≤◌, ◌-◌}
use Rattle.ds_disk.specs.Contents.{WhenTold, Becomes, Same}
use Rattle.space_check.specs.Tables.{TellsUpTo}
use Rattle.space_check.proofs.ranges.tell_tables.Given as goal

-- the first tables were asked
abbrev pub invariant-loop-tables : goal.invariant-loop-tables
invariant-loop-tables g l = record {
  told : WhenTold (g.D.Disk.contents l.fn.disk) (TellsUpTo l.is_early l.ends l.renews l.behind l.tables l.told);
  few : l.tables ≤ 64;
  same : Becomes (g.D.Disk.contents l.fn.disk) (g.D.Disk.contents l.disk) Same;
  later : g.D.Disk.faults l.fn.disk ≤ g.D.Disk.faults l.disk;
}

abbrev pub decreases-loop-tables : goal.decreases-loop-tables
decreases-loop-tables g l = 64 - l.tables
