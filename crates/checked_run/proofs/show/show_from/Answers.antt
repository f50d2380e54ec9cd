use Rattle.checked_run.specs.declared.ended.Outcome.TheVariants as outcome
use Rattle.checked_run.specs.Restarted.{TellsDamageOf}
use Rattle.checked_run.proofs.Restarting.{opened, unopened}
use Rattle.checked_run.proofs.show.show_from.Goals as goal

pub returns-in-Some-clause-restarts : goal.returns-in-Some-clause-restarts
returns-in-Some-clause-restarts g c = unopened g.D.Disk.alive g.D.Disk.contents c.args.disk c.restart.new.disk c.in-Some.why c.in-Some.ensures.ends

pub returns-clause-keeps : goal.returns-clause-keeps
returns-clause-keeps g c = c.keeping_laws.ensures.on (g.D.Disk.contents c.args.disk) (g.D.Disk.contents c.restart.new.disk) (g.D.Disk.contents c.close_shown-ended.new.disk) c.restart.ensures.keeps c.close_shown-ended.ensures.keeps

pub returns-clause-restarts : goal.returns-clause-restarts
returns-clause-restarts g c =
    opened g.D.Disk.alive g.D.Disk.contents c.args.disk c.restart.new.disk c.close_shown-ended.new.disk (TellsDamageOf (outcome.Opened c.args.rows c.close_shown-ended.result)) c.in_default.ensures.ends c.close_shown-ended.ensures.restarts
