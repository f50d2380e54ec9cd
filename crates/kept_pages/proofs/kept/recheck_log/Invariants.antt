use Rattle.std.proofs.Common.{Ok}
use Rattle.disk_heads.specs.Records.{IsSound}
use Rattle.disk_walk.specs.Reading.{Reads}
use Rattle.disk_walk.proofs.One.{WalksOn}
use Rattle.kept_pages.proofs.Telling.{rechecks}
use Rattle.kept_pages.proofs.kept.recheck_log.Given as goal

-- what is left gives what all gives
abbrev pub invariant-loop : goal.invariant-loop
invariant-loop g l =
    Reads (g.D.Disk.contents l.fn.disk) (g.D.Disk.contents l.disk) (g.D.Disk.faults l.fn.disk) (g.D.Disk.faults l.disk) (WalksOn rechecks l.member l.end l.fn.again l.head l.again) (Ok 0)
    × IsSound l.head
