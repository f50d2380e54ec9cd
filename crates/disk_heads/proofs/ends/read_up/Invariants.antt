use Rattle.std.proofs.Common.{◌≡◌, ◌-◌, ◌≤◌}
use Rattle.ds_disk.specs.Contents.{WhenTold, Becomes, Same, log_of}
use Rattle.log_head.specs.Heads.{hand_end}
use Rattle.disk_heads.specs.Reading.{KeepsEnd}
use Rattle.disk_heads.proofs.ends.read_up.Given as goal

-- the log was read on, and nothing has changed
abbrev pub invariant-loop-at : goal.invariant-loop-at
invariant-loop-at g l =
    (l.end.block ≡ l.fn.end.block)
    × WhenTold (g.D.Disk.contents l.fn.disk) (λ c. KeepsEnd (log_of c.logs l.member) l.fn.end.head l.end.head)
    × Becomes (g.D.Disk.contents l.fn.disk) (g.D.Disk.contents l.disk) Same
    × (g.D.Disk.faults l.fn.disk ≤ g.D.Disk.faults l.disk)

abbrev pub decreases-loop-at : goal.decreases-loop-at
decreases-loop-at g l = l.end.head.end - hand_end l.end.head
