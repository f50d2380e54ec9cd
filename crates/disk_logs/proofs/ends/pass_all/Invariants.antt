use Rattle.std.proofs.Common.{ℕ, ◌-◌, ◌≤◌}
use Rattle.ds_disk.specs.Contents.{Contents, WhenTold, Becomes, Same, log_of}
use Rattle.disk_heads.specs.Records.{IsSound}
use Rattle.disk_logs.specs.Ends.{Passes}
use Rattle.disk_logs.proofs.Ending.{SoundWhile, rank}
use Rattle.disk_logs.proofs.ends.pass_all.Given as goal

-- the records so far were passed
abbrev pub invariant-loop-step : goal.invariant-loop-step
invariant-loop-step g l = record {
  told : WhenTold (g.D.Disk.contents l.fn.disk) (λ (c : Contents). Passes (log_of c.logs l.member) l.passing.head l.passing.low l.step);
  sound : SoundWhile l.step l.passing.head;
  same : Becomes (g.D.Disk.contents l.fn.disk) (g.D.Disk.contents l.disk) Same;
  later : g.D.Disk.faults l.fn.disk ≤ g.D.Disk.faults l.disk;
}

abbrev pub decreases-loop-step : goal.decreases-loop-step
decreases-loop-step g l = rank l.step (l.passing.head.end - l.passing.head.at)
