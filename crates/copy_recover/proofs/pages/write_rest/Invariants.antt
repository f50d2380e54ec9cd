use Rattle.std.proofs.Common.{take}
use Rattle.copy_recover.specs.Recovered.{more_names}
use Rattle.copy_recover.proofs.Page_steps.{Done}
use Rattle.copy_recover.proofs.pages.write_rest.Given as goal

abbrev pub invariant-loop-own : goal.invariant-loop-own
invariant-loop-own g l =
    Done l.image l.table l.records (more_names l.image l.table (take l.own-index l.changed)) l.some (g.D.Disk.contents l.fn.disk) (g.D.Disk.contents l.disk) (g.D.Disk.faults l.fn.disk) (g.D.Disk.faults l.disk)
