use Rattle.std.proofs.Common.{◌≡◌, map, false, IfOk, subst}
use Rattle.ds_model.specs.declared.report.Report.{Report}
use Rattle.ds_model.specs.Told.{entry_of}
use Rattle.checked_run.specs.Accounts.{TellsTrace}
use Rattle.checked_run.specs.Refuted.{IsRefuted}
use Rattle.checked_run.specs.Settled.{RefutesEntries}
use Rattle.checked_run.specs.Told.{IsTold, TellsAlways, TellsEntries}
use Rattle.checked_run.proofs.Sound.{checks_ok, told_ok}
use Rattle.checked_run.proofs.settle.check.Goals as goal

pub returns-clause-checks : goal.returns-clause-checks
returns-clause-checks g c before traced account le rose none traces =
    let tells = TellsAlways g.D.Disk.contents in
    let script = c.args.script.now in
    let opening = c.args.opening.now in
    let now = g.D.Disk.faults c.check_entries.new.disk in
    let after = g.D.Disk.contents c.check_entries.new.disk in
    let printed = c.in_ok-printed.printed.items in
    checks_ok c.check_entries.result (IsTold tells script traced opening.rows before now after account) (IsRefuted tells script opening printed before now after) (RefutesEntries tells script opening c.args.entries.items before now after)
    (λ refuted. (printed, (c.in_ok-printed.ensures, refuted)))
    (c.check_entries.ensures.checks before traced account le rose none (subst (λ t. IfOk t (TellsTrace script traced account.causes)) c.in_ok-trace.was traces))

pub returns-clause-tells : goal.returns-clause-tells
returns-clause-tells g c =
    let script = c.args.script.now in
    let printed = c.in_ok-printed.printed.items in
    told_ok c.check_entries.result (λ (report : Report). (report.entries ≡ map (entry_of script) printed) × (report.status ≡ 0 → c.args.failed ≡ false)) (λ (report : Report). TellsEntries script c.args.entries.items report.entries × (report.status ≡ 0 → c.args.failed ≡ false))
    (λ report is. ((printed, (c.in_ok-printed.ensures, is.0)), is.1)) c.check_entries.ensures.tells
