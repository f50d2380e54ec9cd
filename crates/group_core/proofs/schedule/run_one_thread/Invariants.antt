use Rattle.group_core.specs.Goes.{Goes}
use Rattle.group_core.proofs.Runs.{SoFar}
use Rattle.group_core.proofs.schedule.run_one_thread.Given as goal

abbrev pub invariant-loop-taken : goal.invariant-loop-taken
invariant-loop-taken g l =
    SoFar g.C.CacheFace.directory g.D.Disk.alive g.D.Disk.contents g.D.Disk.faults l.fn.group l.fn.generator l._taken l.group l.generator
    × Goes (g.D.Disk.faults l.fn.group.disk) l.fn.group.faults.items l.fn.group.fault (g.D.Disk.faults l.group.disk) l.group.faults.items l.group.fault
