use Rattle.std.proofs.Common.{take}
use Rattle.run_replay.specs.Seen.{DatesAll}
use Rattle.run_replay.proofs.dates.find_dates.Given as goal

abbrev pub invariant-loop-event : goal.invariant-loop-event
invariant-loop-event g l = DatesAll g.C.CacheFace.directory g.D.Disk.alive g.D.Disk.contents g.D.Disk.faults l.fn.group l.fn.sights (take l.event-index l.events) l.group l.sights
