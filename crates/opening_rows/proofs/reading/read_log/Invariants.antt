use Rattle.std.proofs.Common.{◌≡◌, ◌+◌, ◌-◌, ◌≤◌, Bool, Ok, cond, length}
use Rattle.ds_disk.specs.Contents.{log_of}
use Rattle.disk_heads.specs.Records.{IsSound}
use Rattle.opening_rows.specs.Reading.{ReadsBy}
use Rattle.opening_rows.specs.Kept.{keeps_of}
use Rattle.opening_rows.specs.LogReads.{GoesTo}
use Rattle.opening_rows.proofs.reading.read_log.Given as goal

-- the records so far were taken
abbrev pub invariant-loop-more : goal.invariant-loop-more
invariant-loop-more g l =
    ReadsBy (g.D.Disk.contents l.fn.disk) (g.D.Disk.contents l.disk) (g.D.Disk.faults l.fn.disk) (g.D.Disk.faults l.disk)
    (λ (more : Bool) c. (l.length ≡ length (log_of c.logs l.member)) × GoesTo (log_of c.logs l.member) (keeps_of l.keeps) l.had l.head l.taken more) (λ member at c. ⊥) (Ok l.more)
    × IsSound l.head
    × (l.head.end ≡ l.length)
    × (l.head.at ≤ l.head.end)

abbrev pub decreases-loop-more : goal.decreases-loop-more
decreases-loop-more g l = cond l.more (l.head.end - l.head.at + 1) 0
