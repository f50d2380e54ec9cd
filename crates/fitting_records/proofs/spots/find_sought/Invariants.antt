use Rattle.std.proofs.Common.{Ok}
use Rattle.disk_walk.specs.Reading.{Reads}
use Rattle.disk_walk.proofs.Whole.{LogsOn}
use Rattle.fitting_records.proofs.Seeking.{spots}
use Rattle.fitting_records.proofs.spots.find_sought.Given as goal

-- the logs that are left give what all give
abbrev pub invariant-loop-index : goal.invariant-loop-index
invariant-loop-index g l = Reads (g.D.Disk.contents l.fn.disk) (g.D.Disk.contents l.disk) (g.D.Disk.faults l.fn.disk) (g.D.Disk.faults l.disk) (LogsOn (spots l.drawn l.number) l.ends 0 l.index 0) (Ok 0)
