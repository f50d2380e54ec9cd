use Rattle.group_core.specs.Fresh.{RunsFrom}
use Rattle.group_threads.proofs.run.play_all.Given as goal

abbrev pub invariant-loop : goal.invariant-loop
invariant-loop g l = RunsFrom g.C.CacheFace.directory g.D.Disk.alive g.D.Disk.contents g.D.Disk.faults l.fn.group l.group
