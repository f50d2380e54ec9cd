use Rattle.std.proofs.Common.{◌≡◌, ℕ, ◌≤◌}
use Rattle.ds_disk.specs.Contents.{WhenTold, Becomes, Same}
use Rattle.log_heads.specs.declared.taken.Taken.TheVariants.{Wants}
use Rattle.log_heads.specs.Heads.{taken_of}
use Rattle.log_heads.specs.Logs.{work_left}
use Rattle.disk_walk.proofs.Walking.{CameOf}
use Rattle.disk_walk.proofs.walk.next_of_all.Given as goal

-- what was taken last, of the logs as they were at first
abbrev pub invariant-loop-taken : goal.invariant-loop-taken
invariant-loop-taken g l = record {
  came : WhenTold (g.D.Disk.contents l.fn.disk) (CameOf l.fn.heads.heads l.taken l.heads.heads);
  wants : (member at count : ℕ) → l.taken ≡ Wants member at count → (taken_of l.heads ≡ Wants member at count) × (count ≤ l.heads.block);
  block : l.heads.block ≡ l.fn.heads.block;
  same : Becomes (g.D.Disk.contents l.fn.disk) (g.D.Disk.contents l.disk) Same;
  later : g.D.Disk.faults l.fn.disk ≤ g.D.Disk.faults l.disk;
}

abbrev pub decreases-loop-taken : goal.decreases-loop-taken
decreases-loop-taken g l = work_left l.heads.heads
