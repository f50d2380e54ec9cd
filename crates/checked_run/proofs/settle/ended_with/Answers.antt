use Rattle.checked_run.specs.Told.{TellsAlways}
use Rattle.checked_run.proofs.Settling.{checked}
use Rattle.checked_run.proofs.settle.ended_with.Goals as goal

pub returns-in-Ok-clause-settles : goal.returns-in-Ok-clause-settles
returns-in-Ok-clause-settles g c before traced account end why le can traces =
    checked (TellsAlways g.D.Disk.contents) c.args.script.now traced c.args.opening.now before (g.D.Disk.faults c.args.disk.now) (g.D.Disk.faults c.check.new.disk) (g.D.Disk.contents c.check.new.disk) account end why c.args.entries.items c.args.failed c.in-Ok.ended
    can (c.in-Ok.ensures.checks before traced account le can.0 (λ e. (can.1.0 e).0) traces) c.in-Ok.ensures.tells
