use Rattle.kept_pages.proofs.Telling.{log_bad, log_fits}
use Rattle.kept_pages.proofs.kept.check_log.Goals as goal

pub returns-in-Some : goal.returns-in-Some
returns-in-Some g c =
    log_bad c.recheck_laws.ensures.tells _ _ _ _ _ _ c.args.member c.args.end c.args.first c.in_ok-scan.scan c.new-again.result c.recheck_log.new.again c.in_ok-at.field-0 c.in-Some.at c.in-Some.is c.new-again.ensures c.in_ok-scan.ensures
    c.in_ok-at.ensures

pub returns : goal.returns
returns g c =
    log_fits c.recheck_laws.ensures.tells c.recheck_laws.ensures.needs _ _ _ _ _ _ _ _ c.args.member c.args.end c.args.first c.in_ok-page-in-None.page c.in_ok-scan.scan c.new-again.result c.recheck_log.new.again c.in_ok-at.field-0 c.in-None.is
    c.new-again.ensures c.in_ok-scan.ensures c.in_ok-at.ensures c.in_ok-page-in-None.ensures
