use Rattle.std.proofs.Common.{Ok}
use Rattle.disk_heads.specs.Records.{IsSound}
use Rattle.disk_walk.specs.Reading.{Reads}
use Rattle.disk_walk.proofs.One.{WalksOn}
use Rattle.kept_checkpoints.specs.Scan.{nothing_scanned}
use Rattle.kept_pages.proofs.Telling.{scans}
use Rattle.kept_pages.proofs.kept.scan_log.Given as goal

-- what is left gives what all gives
abbrev pub invariant-loop : goal.invariant-loop
invariant-loop g l =
    Reads (g.D.Disk.contents l.fn.disk) (g.D.Disk.contents l.disk) (g.D.Disk.faults l.fn.disk) (g.D.Disk.faults l.disk) (WalksOn scans l.member l.end nothing_scanned l.head l.scan) (Ok 0)
    × IsSound l.head
