use Rattle.std.proofs.Common.{◌+◌, ◌-◌, Bool, Ok, cond}
use Rattle.std.specs.BTreeSet as set
use Rattle.std.specs.Ordering.{nat_cmp}
use Rattle.ds_disk.specs.Contents.{log_of}
use Rattle.disk_heads.specs.Records.{IsSound}
use Rattle.opening_rows.specs.Reading.{ReadsBy}
use Rattle.opening_rows.specs.Survey.{Passes}
use Rattle.opening_rows.proofs.survey.survey_log.Given as goal

-- the records so far were passed
abbrev pub invariant-loop-more : goal.invariant-loop-more
invariant-loop-more g l =
    ReadsBy (g.D.Disk.contents l.fn.disk) (g.D.Disk.contents l.disk) (g.D.Disk.faults l.fn.disk) (g.D.Disk.faults l.disk)
    (λ (more : Bool) c. Passes (log_of c.logs l.member) l.survey.head l.survey.low l.survey.count (set.contains nat_cmp l.fn.pending) (set.contains nat_cmp l.pending) more) (λ member at c. ⊥) (Ok l.more)
    × IsSound l.survey.head

abbrev pub decreases-loop-more : goal.decreases-loop-more
decreases-loop-more g l = cond l.more (l.survey.head.end - l.survey.head.at + 1) 0
