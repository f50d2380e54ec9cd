use Rattle.std.proofs.Common.{Ok}
use Rattle.disk_heads.specs.Records.{IsSound}
use Rattle.disk_walk.specs.Reading.{Reads}
use Rattle.disk_walk.proofs.One.{WalksOn}
use Rattle.fitting_records.specs.Ranges.{range_from}
use Rattle.fitting_records.proofs.ranges.take_log.Given as goal

-- what is left gives what all gives
abbrev pub invariant-loop : goal.invariant-loop
invariant-loop g l =
    Reads (g.D.Disk.contents l.fn.disk) (g.D.Disk.contents l.disk) (g.D.Disk.faults l.fn.disk) (g.D.Disk.faults l.disk) (WalksOn (range_from l.member) l.member l.end l.fn.seen l.head l.seen) (Ok 0)
    × IsSound l.head
