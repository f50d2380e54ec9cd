use Rattle.std.proofs.Common.{◌≡◌, length, IfOk, sym, ap, subst, ◌∙◌}
use Rattle.group_core.specs.declared.schedule.RunEnd.{RunEnd}
use Rattle.checked_run.specs.declared.account.Account.{Account}
use Rattle.checked_run.specs.Accounts.{TellsTrace}
use Rattle.checked_run.specs.Settled.{CanSettle, Settles}
use Rattle.checked_run.specs.Told.{TellsAlways}
use Rattle.checked_run.proofs.settle.settle.Goals as goal

pub returns-in-Ok-clause-settles : goal.returns-in-Ok-clause-settles
returns-in-Ok-clause-settles g c before e le rose is =
    let same : c.in-Ok.end ≡ e = cc in
    let played = c.args.played in
    let account = c.take_apart-account.result.account in
    let its : account ≡ Rattle.checked_run.specs.Accounts.account_of played = c.take_apart-account.ensures.account in
    let begun = g.D.Disk.faults c.args.disk.now in
    let can = subst (λ (a : Account). CanSettle before begun a.faults (length a.journal) c.in-Ok.end played.fault c.failure_in-failure.result) (sym its) (c.failure_in-failure.ensures before begun rose) in
    let traces = subst (λ (a : Account). IfOk c.take_apart-account.result.trace (TellsTrace c.args.script.now c.args.is_traced a.causes)) (sym its) c.take_apart-account.ensures.trace in
    let settled = c.ended_of-ended.ensures.settles before c.args.is_traced account c.in-Ok.end played.fault le can traces in
    let now = g.D.Disk.faults c.ended_of-ended.new.disk in
    let after = g.D.Disk.contents c.ended_of-ended.new.disk in
    let at_entries = subst (λ es. Settles (TellsAlways g.D.Disk.contents) c.args.script.now c.args.is_traced c.args.opening.now before now after account c.in-Ok.end played.fault es c.ended_of-ended.result) c.take_apart-account.ensures.entries settled in
    subst (λ (end : RunEnd). Settles (TellsAlways g.D.Disk.contents) c.args.script.now c.args.is_traced c.args.opening.now before now after account end played.fault played.entries.items c.ended_of-ended.result) same at_entries
