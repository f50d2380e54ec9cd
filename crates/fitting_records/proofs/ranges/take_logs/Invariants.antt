use Rattle.std.proofs.Common.{Ok}
use Rattle.disk_walk.specs.Reading.{Reads}
use Rattle.disk_walk.proofs.Whole.{LogsOn}
use Rattle.fitting_records.specs.Ranges.{nothing_in, range_among}
use Rattle.fitting_records.proofs.ranges.take_logs.Given as goal

-- the logs that are left give what all give
abbrev pub invariant-loop-index : goal.invariant-loop-index
invariant-loop-index g l =
    Reads (g.D.Disk.contents l.fn.disk) (g.D.Disk.contents l.disk) (g.D.Disk.faults l.fn.disk) (g.D.Disk.faults l.disk) (LogsOn range_among l.ends (nothing_in l.fn.range) l.index l.seen) (Ok 0)
