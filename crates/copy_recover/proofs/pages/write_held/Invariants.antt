use Rattle.copy_recover.specs.Recovered.{names_in}
use Rattle.copy_recover.proofs.Page_steps.{Done}
use Rattle.copy_recover.proofs.pages.write_held.Given as goal

abbrev pub invariant-loop-n : goal.invariant-loop-n
invariant-loop-n g l =
    Done l.image l.table l.records (names_in l.table l.heap l.n) l.some (g.D.Disk.contents l.fn.disk) (g.D.Disk.contents l.disk) (g.D.Disk.faults l.fn.disk) (g.D.Disk.faults l.disk)
