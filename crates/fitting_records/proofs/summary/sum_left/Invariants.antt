use Rattle.std.proofs.Common.{◌≡◌, ◌≤◌, length}
use Rattle.ds_disk.specs.Contents.{WhenTold, Becomes, Same}
use Rattle.fitting_records.proofs.Summing.{SumsTo}
use Rattle.fitting_records.proofs.summary.sum_left.Given as goal

-- the records so far were taken
abbrev pub invariant-loop : goal.invariant-loop
invariant-loop g l = record {
  told : WhenTold (g.D.Disk.contents l.fn.disk) (SumsTo l.fn.heads.heads l.heads.heads l.sums);
  olds : length l.sums.olds.items ≡ 32;
  ends : length l.sums.ends.items ≡ 32;
  count : length l.sums.counts.items ≡ 64;
  block : l.heads.block ≡ l.fn.heads.block;
  same : Becomes (g.D.Disk.contents l.fn.disk) (g.D.Disk.contents l.disk) Same;
  later : g.D.Disk.faults l.fn.disk ≤ g.D.Disk.faults l.disk;
}
