use Rattle.std.proofs.Common.{Ok}
use Rattle.disk_walk.specs.Reading.{Reads}
use Rattle.fitting_records.proofs.Ranging.{SearchesOn}
use Rattle.fitting_records.proofs.ranges.search.Given as goal

-- what the ranges so far have found
abbrev pub invariant-loop : goal.invariant-loop
invariant-loop g l = Reads (g.D.Disk.contents l.fn.disk) (g.D.Disk.contents l.disk) (g.D.Disk.faults l.fn.disk) (g.D.Disk.faults l.disk) (SearchesOn l.ends l.first l.from) (Ok 0)
