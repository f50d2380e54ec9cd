use Rattle.checked_run.proofs.Opened.{damage, damage_again}
use Rattle.checked_run.proofs.logs.check_back.Goals as goal

pub returns-in_default-clause-damaged : goal.returns-in_default-clause-damaged
returns-in_default-clause-damaged g c = damage _ _ _ _ _ _ c.check_report-read.ensures.judged

pub returns-in-Err-Failed-clause-damaged : goal.returns-in-Err-Failed-clause-damaged
returns-in-Err-Failed-clause-damaged g c = damage_again _ _ _ _ c.check_report-read.ensures.judged.same (damage _ _ _ _ _ _ c.check_report.ensures.judged)
