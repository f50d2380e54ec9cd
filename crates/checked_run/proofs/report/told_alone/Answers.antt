use Rattle.checked_run.proofs.Sound.{alone_by}
use Rattle.checked_run.proofs.report.told_alone.Goals as goal

pub returns-in_ok-report-in-Some : goal.returns-in_ok-report-in-Some
returns-in_ok-report-in-Some c =
    alone_by c.soundness_laws.ensures.alone c.args.script.now c.args.opening.now _ c.args.entries.items c.in_ok-sound_rows.field-0 c.in-Some.rows c.args.trace c.args.status c.in_ok-report-in-Some.report
    c.deref.ensures.value c.in_ok-sound_rows.ensures c.in-Some.is c.in_ok-report-in-Some.ensures
