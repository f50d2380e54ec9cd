use Rattle.std.proofs.Common.{Ok}
use Rattle.disk_heads.specs.Records.{IsSound}
use Rattle.disk_walk.specs.Reading.{Reads}
use Rattle.kept_pages.proofs.Telling.{JudgesOn}
use Rattle.kept_pages.proofs.kept.judge_log.Given as goal

-- the needs of the records so far were looked at
abbrev pub invariant-loop : goal.invariant-loop
invariant-loop g l =
    Reads (g.D.Disk.contents l.fn.disk) (g.D.Disk.contents l.disk) (g.D.Disk.faults l.fn.disk) (g.D.Disk.faults l.disk) (JudgesOn l.member l.end l.again l.fn.first l.head l.found) (Ok 0)
    × IsSound l.head
