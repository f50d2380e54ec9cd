use Rattle.std.proofs.Common.{Ok}
use Rattle.disk_heads.specs.Records.{IsSound}
use Rattle.disk_walk.specs.Reading.{Reads}
use Rattle.disk_walk.proofs.One.{WalksOn}
use Rattle.fitting_records.proofs.Seeking.{places}
use Rattle.fitting_records.proofs.spots.place_of.Given as goal

-- what is left gives what all gives
abbrev pub invariant-loop : goal.invariant-loop
invariant-loop g l =
    Reads (g.D.Disk.contents l.fn.disk) (g.D.Disk.contents l.disk) (g.D.Disk.faults l.fn.disk) (g.D.Disk.faults l.disk) (WalksOn (places l.drawn l.number) l.member l.end 0 l.head 0) (Ok 0)
    × IsSound l.head
