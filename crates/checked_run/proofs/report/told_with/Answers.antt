use Rattle.std.proofs.Common.{refl}
use Rattle.checked_run.proofs.Sound.{alone_from}
use Rattle.checked_run.proofs.report.told_with.Goals as goal

pub returns-in_ok-report-in-Some : goal.returns-in_ok-report-in-Some
returns-in_ok-report-in-Some c = (
  (c.in-Some.rows, c.in-Some.is),
  alone_from c.soundness_laws.ensures.alone c.args.script.now c.args.opening.now c.args.entries.items c.args.rows c.in-Some.rows c.args.trace c.args.status c.in_ok-report-in-Some.report c.requires c.in-Some.is c.in_ok-report-in-Some.ensures,
)
