use Rattle.std.proofs.Common.{length, subst}
use Rattle.checked_run.specs.Settled.{CanSettle}
use Rattle.checked_run.specs.Told.{TellsAlways}
use Rattle.checked_run.proofs.Settling.{refused}
use Rattle.checked_run.proofs.settle.ended_of.Goals as goal

pub returns-in-Err-clause-settles : goal.returns-in-Err-clause-settles
returns-in-Err-clause-settles g c before traced account end why le can traces =
    refused (TellsAlways g.D.Disk.contents) c.args.script.now traced c.args.opening.now before (g.D.Disk.faults c.args.disk.now) (g.D.Disk.contents c.args.disk.now) account end why c.args.entries.items c.in-Err.ended
    (subst (λ f. CanSettle before (g.D.Disk.faults c.args.disk.now) account.faults (length account.journal) end why f) c.in-Err.is can)

pub returns-in-Ok-clause-settles : goal.returns-in-Ok-clause-settles
returns-in-Ok-clause-settles g c before traced account end why le can traces =
    c.ended_with.ensures.settles before traced account end why le
    (subst (λ f. CanSettle before (g.D.Disk.faults c.args.disk.now) account.faults (length account.journal) end why f) c.in-Ok.is can) traces
