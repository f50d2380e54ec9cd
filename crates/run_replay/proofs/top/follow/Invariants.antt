use Rattle.std.proofs.Common.{take}
use Rattle.run_replay.specs.Follows.{FollowsAll}
use Rattle.run_replay.proofs.top.follow.Given as goal

abbrev pub invariant-loop-event : goal.invariant-loop-event
invariant-loop-event g l = FollowsAll g.C.CacheFace.directory g.D.Disk.alive g.D.Disk.contents g.D.Disk.faults l.fn.group (take l.event-index l.events) l.group
