use Rattle.std.proofs.Common.{◌-◌, ◌≤◌}
use Rattle.ds_disk.specs.Contents.{WhenTold, Becomes, Same, log_of}
use Rattle.log_head.specs.Heads.{hand_end}
use Rattle.disk_heads.specs.Records.{KeepsOf, HasMoved}
use Rattle.disk_heads.proofs.records.fill_up.Given as goal

-- the log was read on, and nothing has changed
abbrev pub invariant-loop-at : goal.invariant-loop-at
invariant-loop-at g l =
    HasMoved l.fn.head l.head
    × WhenTold (g.D.Disk.contents l.fn.disk) (λ c. KeepsOf (log_of c.logs l.member) l.fn.head l.head)
    × Becomes (g.D.Disk.contents l.fn.disk) (g.D.Disk.contents l.disk) Same
    × (g.D.Disk.faults l.fn.disk ≤ g.D.Disk.faults l.disk)

abbrev pub decreases-loop-at : goal.decreases-loop-at
decreases-loop-at g l = l.head.end - hand_end l.head
