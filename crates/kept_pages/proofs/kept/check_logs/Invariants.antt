use Rattle.std.proofs.Common.{Ok}
use Rattle.disk_walk.specs.Reading.{Reads}
use Rattle.kept_pages.proofs.Telling.{KeepsTo}
use Rattle.kept_pages.proofs.kept.check_logs.Given as goal

-- the logs so far have no bad offset, and their needs were looked at
abbrev pub invariant-loop-index : goal.invariant-loop-index
invariant-loop-index g l = Reads (g.D.Disk.contents l.fn.disk) (g.D.Disk.contents l.disk) (g.D.Disk.faults l.fn.disk) (g.D.Disk.faults l.disk) (KeepsTo l.ends l.index l.first) (Ok 0)
