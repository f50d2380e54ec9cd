use Rattle.std.proofs.Common.{◌∙◌, inr, Ok, Err, ap, refl}
use Rattle.group_core.proofs.Known.{opened_ends}
use Rattle.group_core.proofs.start.open_disk.Goals as goal

pub returns-in-Ok-run_restart-clause-ends : goal.returns-in-Ok-run_restart-clause-ends
returns-in-Ok-run_restart-clause-ends g c =
    opened_ends (g.D.Disk.contents c.args.disk.now) (g.D.Disk.contents c.run_restart.new.disk) c.run_restart.new.restart c.in-Ok-run_restart.ended c.opened_by.result c.opened_by.ensures.done c.opened_by.ensures.ends
    (λ counter is. c.run_restart.ensures.there counter (c.in-Ok-run_restart.is ∙ ap Ok is))

pub returns-in_default-clause-unopened : goal.returns-in_default-clause-unopened
returns-in_default-clause-unopened g c = record { came = Err c.in_default.field-0; run = inr (refl, tt); stops = tt }
