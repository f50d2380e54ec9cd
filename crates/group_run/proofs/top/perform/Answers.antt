use Rattle.std.proofs.Common.{Bool, false, List, [], None, refl, sym, subst, ◌∙◌}
use Rattle.ds_base.specs.declared.row.Row.{Row}
use Rattle.member_core.specs.declared.member.Member.{Member}
use Rattle.checked_run.specs.Leading.{kind_of}
use Rattle.checked_run.specs.declared.account.Account.{Account}
use Rattle.checked_run.specs.Outcomes.{Comes, Shows}
use Rattle.group_run.specs.Outside.{outside}
use Rattle.group_run.specs.Prepares.{IsAllowed}
use Rattle.group_run.specs.Tellings.{short_telling, script_telling}
use Rattle.group_run.specs.Ends.{Meets, RestartsAlone, TellsDamage}
use Rattle.group_run.proofs.Called.{CameOf, ended, is_made, shows, plays, works, checks}
use Rattle.ds_disk.specs.Contents.{Becomes}
use Rattle.disk_restart.specs.Keeping.{KeepsRecords}
use Rattle.checked_run.specs.Restarted.{IsLeftByRestarts}
use Rattle.group_run.specs.declared.prepare.Prepared.TheVariants as step
use Rattle.group_run.proofs.Restarting.{IsAlone, alone, left_by, left_same, left_unopened, made_tells, same_self, wanted_tells}
use Rattle.group_run.proofs.top.perform.Goals as goal

pub run-requires-clause-sizes : goal.run-requires-clause-sizes
run-requires-clause-sizes g c κs within = subst IsAllowed c.in-Play.is c.requires.allowed

pub returns-in-Ended-clause-meets : goal.returns-in-Ended-clause-meets
returns-in-Ended-clause-meets g c = λ o was left was_faults faults prepared unread.
    let before = outside was was_faults (g.D.Disk.contents c.args.disk) (g.D.Disk.alive c.args.disk) (g.D.Disk.faults c.args.disk) in
    let its = rw c.in-Ended.is at prepared in
    let told = c.or_wanting.ensures (short_telling c.in-Ended.met) c.short_telling-telling.ensures in
    subst (λ x. Meets (kind_of Member g.D.Disk.alive g.D.Disk.contents g.D.Disk.faults) o before (outside left faults (g.D.Disk.contents x.disk) (g.D.Disk.alive x.disk) (g.D.Disk.faults x.disk)) x.telling.status x.telling.text x.opened x.opening x.account x.telling.report) (sym c.unopened.ensures)
    (ended (kind_of Member g.D.Disk.alive g.D.Disk.contents g.D.Disk.faults) o before (outside left faults (g.D.Disk.contents c.args.disk) (g.D.Disk.alive c.args.disk) (g.D.Disk.faults c.args.disk)) c.in-Ended.met c.or_wanting.result its (refl, refl, refl) unread told)

pub returns-in-Make-clause-meets : goal.returns-in-Make-clause-meets
returns-in-Make-clause-meets g c = λ o was left was_faults faults prepared unread.
    let before = outside was was_faults (g.D.Disk.contents c.args.disk) (g.D.Disk.alive c.args.disk) (g.D.Disk.faults c.args.disk) in
    let its = rw c.in-Make.is at prepared in
    let told = c.or_wanting-in-Make.ensures (script_telling c.in-Make.n) c.script_telling-telling.ensures in
    subst (λ x. Meets (kind_of Member g.D.Disk.alive g.D.Disk.contents g.D.Disk.faults) o before (outside left faults (g.D.Disk.contents x.disk) (g.D.Disk.alive x.disk) (g.D.Disk.faults x.disk)) x.telling.status x.telling.text x.opened x.opening x.account x.telling.report) (sym c.unopened-in-Make.ensures)
    (is_made (kind_of Member g.D.Disk.alive g.D.Disk.contents g.D.Disk.faults) o before (outside left faults (g.D.Disk.contents c.args.disk) (g.D.Disk.alive c.args.disk) (g.D.Disk.faults c.args.disk)) c.in-Make.n c.or_wanting-in-Make.result its (refl, refl, refl) unread told)

pub returns-in-Show-clause-meets : goal.returns-in-Show-clause-meets
returns-in-Show-clause-meets g c = λ o was left was_faults faults prepared unread.
    let before = outside was was_faults (g.D.Disk.contents c.args.disk) (g.D.Disk.alive c.args.disk) (g.D.Disk.faults c.args.disk) in
    let its = rw c.in-Show.is at prepared in
    let came = c.came_of.result in
    let left_disk = c.show_disk.result.disk in
    subst (λ d. Meets (kind_of Member g.D.Disk.alive g.D.Disk.contents g.D.Disk.faults) o before (outside left faults (g.D.Disk.contents d) (g.D.Disk.alive d) (g.D.Disk.faults d)) came.telling.status came.telling.text came.opened came.opening came.account came.telling.report) (sym c.came_of.ensures.disk)
    (shows (kind_of Member g.D.Disk.alive g.D.Disk.contents g.D.Disk.faults) o before (outside left faults (g.D.Disk.contents left_disk) (g.D.Disk.alive left_disk) (g.D.Disk.faults left_disk)) came.account c.show_disk.result.outcome came.opened came.opening came.telling its unread (c.came_of.ensures.account ∙ c.show_disk.ensures.account)
    (subst (λ (a : Account). Comes (g.D.Disk.contents c.args.disk) (g.D.Disk.faults c.args.disk) (g.D.Disk.faults left_disk) a (Shows (g.D.Disk.faults c.args.disk) (g.D.Disk.faults left_disk)) c.show_disk.result.outcome) (sym c.came_of.ensures.account) c.show_disk.ensures.comes) c.came_of.ensures.tells)

pub returns-in-Play-clause-meets : goal.returns-in-Play-clause-meets
returns-in-Play-clause-meets g c = λ o was left was_faults faults prepared unread.
    let before = outside was was_faults (g.D.Disk.contents c.args.disk) (g.D.Disk.alive c.args.disk) (g.D.Disk.faults c.args.disk) in
    let its = rw c.in-Play.is at prepared in
    let came = c.came_of-in-Play.result in
    let left_disk = c.run.result.disk in
    let kind = kind_of Member g.D.Disk.alive g.D.Disk.contents g.D.Disk.faults in
    let after = outside left faults (g.D.Disk.contents left_disk) (g.D.Disk.alive left_disk) (g.D.Disk.faults left_disk) in
    subst (λ d. Meets (kind_of Member g.D.Disk.alive g.D.Disk.contents g.D.Disk.faults) o before (outside left faults (g.D.Disk.contents d) (g.D.Disk.alive d) (g.D.Disk.faults d)) came.telling.status came.telling.text came.opened came.opening came.account came.telling.report) (sym c.came_of-in-Play.ensures.disk)
    (plays kind o before after came.account c.in-Play.script c.in-Play.setting c.run.result.outcome came.opened came.opening came.telling its
    (subst (λ (a : Account). CameOf kind c.in-Play.script c.in-Play.setting.seed c.in-Play.setting.trace before after a c.run.result.outcome) (sym c.came_of-in-Play.ensures.account) c.run.ensures.comes) c.came_of-in-Play.ensures.tells)

pub perform_work-requires-clause-sizes : goal.perform_work-requires-clause-sizes
perform_work-requires-clause-sizes g c κs within = (subst IsAllowed c.in-Work.is c.requires.allowed).0

pub perform_work-requires-clause-untraced : goal.perform_work-requires-clause-untraced
perform_work-requires-clause-untraced g c κs within = (subst IsAllowed c.in-Work.is c.requires.allowed).1

pub perform_work-requires-clause-seeded : goal.perform_work-requires-clause-seeded
perform_work-requires-clause-seeded g c κs within = (subst IsAllowed c.in-Work.is c.requires.allowed).2

pub returns-in-Work-clause-meets : goal.returns-in-Work-clause-meets
returns-in-Work-clause-meets g c = λ o was left was_faults faults prepared unread.
    let before = outside was was_faults (g.D.Disk.contents c.args.disk) (g.D.Disk.alive c.args.disk) (g.D.Disk.faults c.args.disk) in
    let its = rw c.in-Work.is at prepared in
    let came = c.perform_work.result in
    works (kind_of Member g.D.Disk.alive g.D.Disk.contents g.D.Disk.faults) o before (outside left faults (g.D.Disk.contents came.disk) (g.D.Disk.alive came.disk) (g.D.Disk.faults came.disk)) came.account c.in-Work.n c.in-Work.setting came.opened came.opening came.telling its unread c.perform_work.ensures.works

pub returns-in-Check-clause-meets : goal.returns-in-Check-clause-meets
returns-in-Check-clause-meets g c = λ o was left was_faults faults prepared unread.
    let kind = kind_of Member g.D.Disk.alive g.D.Disk.contents g.D.Disk.faults in
    let before = outside was was_faults (g.D.Disk.contents c.args.disk) (g.D.Disk.alive c.args.disk) (g.D.Disk.faults c.args.disk) in
    let its = rw c.in-Check.is at prepared in
    let came = c.perform_check.result in
    let after = outside left faults (g.D.Disk.contents came.disk) (g.D.Disk.alive came.disk) (g.D.Disk.faults came.disk) in
    let meets = checks kind o before after came.telling its unread c.perform_check.ensures.checks in
    let its = c.perform_check.ensures.unopened in
    subst (λ (b : Bool). Meets kind o before after came.telling.status came.telling.text b came.opening came.account came.telling.report) (sym its.0)
    (subst (λ (rows : List Row). Meets kind o before after came.telling.status came.telling.text false rows came.account came.telling.report) (sym its.1)
    (subst (λ (a : Account). Meets kind o before after came.telling.status came.telling.text false [] a came.telling.report) (sym its.2) meets))

pub returns-in-Ended-clause-left : goal.returns-in-Ended-clause-left
returns-in-Ended-clause-left g c = λ closed. subst (λ x. Becomes (g.D.Disk.contents c.args.disk) (g.D.Disk.contents x.disk) KeepsRecords) (sym c.unopened.ensures) (c.keeping_laws.ensures.itself (g.D.Disk.contents c.args.disk))

pub returns-in-Make-clause-left : goal.returns-in-Make-clause-left
returns-in-Make-clause-left g c = λ closed. subst (λ x. Becomes (g.D.Disk.contents c.args.disk) (g.D.Disk.contents x.disk) KeepsRecords) (sym c.unopened-in-Make.ensures) (c.keeping_laws.ensures.itself (g.D.Disk.contents c.args.disk))

pub returns-in-Show-clause-left : goal.returns-in-Show-clause-left
returns-in-Show-clause-left g c = λ closed. subst (λ d. Becomes (g.D.Disk.contents c.args.disk) (g.D.Disk.contents d) KeepsRecords) (sym c.came_of.ensures.disk) c.show_disk.ensures.keeps

pub returns-in-Play-clause-left : goal.returns-in-Play-clause-left
returns-in-Play-clause-left g c = λ closed.
    subst (λ d. Becomes (g.D.Disk.contents c.args.disk) (g.D.Disk.contents d) KeepsRecords) (sym c.came_of-in-Play.ensures.disk)
    (c.came_of-in-Play.ensures.left (g.D.Disk.contents c.args.disk) (g.D.Disk.contents c.run.result.disk) c.run.ensures.left closed)

pub returns-in-Ended-clause-restarts : goal.returns-in-Ended-clause-restarts
returns-in-Ended-clause-restarts g c = λ o was left was_faults faults ready is.
    let its = rw c.in-Ended.is at ready in
    let none = alone o (step.Ended c.in-Ended.met) false was left was_faults faults its (subst (λ x. RestartsAlone o x.opened) c.unopened.ensures is) in
    let told = c.or_wanting.ensures (short_telling c.in-Ended.met) c.short_telling-telling.ensures in
    subst (λ x. IsLeftByRestarts g.D.Disk.alive g.D.Disk.contents c.args.disk (TellsDamage x.telling.status) x.disk) (sym c.unopened.ensures)
    (left_same g.D.Disk.alive g.D.Disk.contents c.args.disk c.args.disk (TellsDamage c.or_wanting.result.status) (same_self (g.D.Disk.contents c.args.disk)) (λ v at e. none v at (wanted_tells (short_telling c.in-Ended.met) c.or_wanting.result told v at e)))

pub returns-in-Make-clause-restarts : goal.returns-in-Make-clause-restarts
returns-in-Make-clause-restarts g c = λ o was left was_faults faults ready is.
    let told = c.or_wanting-in-Make.ensures (script_telling c.in-Make.n) c.script_telling-telling.ensures in
    subst (λ x. IsLeftByRestarts g.D.Disk.alive g.D.Disk.contents c.args.disk (TellsDamage x.telling.status) x.disk) (sym c.unopened-in-Make.ensures)
    (left_same g.D.Disk.alive g.D.Disk.contents c.args.disk c.args.disk (TellsDamage c.or_wanting-in-Make.result.status) (same_self (g.D.Disk.contents c.args.disk))
    (λ v at e. made_tells v at (wanted_tells (script_telling c.in-Make.n) c.or_wanting-in-Make.result told v at e)))

pub returns-in-Show-clause-restarts : goal.returns-in-Show-clause-restarts
returns-in-Show-clause-restarts g c = λ o was left was_faults faults ready is.
    let came = c.came_of.result in
    subst (λ d. IsLeftByRestarts g.D.Disk.alive g.D.Disk.contents c.args.disk (TellsDamage came.telling.status) d) (sym c.came_of.ensures.disk)
    (left_by g.D.Disk.alive g.D.Disk.contents None c.args.disk c.show_disk.result.disk c.show_disk.result.outcome came.opened came.opening came.telling c.came_of.ensures.tells c.show_disk.ensures.restarts)

pub returns-in-Play-clause-restarts : goal.returns-in-Play-clause-restarts
returns-in-Play-clause-restarts g c = λ o was left was_faults faults ready is.
    let came = c.came_of-in-Play.result in
    let its = rw c.in-Play.is at ready in
    let closed = alone o (step.Play c.in-Play.script c.in-Play.setting) came.opened was left was_faults faults its is in
    subst (λ d. IsLeftByRestarts g.D.Disk.alive g.D.Disk.contents c.args.disk (TellsDamage came.telling.status) d) (sym c.came_of-in-Play.ensures.disk)
    (left_unopened g.D.Disk.alive g.D.Disk.contents None c.args.disk c.run.result.disk c.run.result.outcome came.opened came.opening came.telling c.came_of-in-Play.ensures.tells c.run.ensures.restarts closed)

pub returns-in-Work-clause-restarts : goal.returns-in-Work-clause-restarts
returns-in-Work-clause-restarts g c = λ o was left was_faults faults ready is.
    let its = rw c.in-Work.is at ready in
    c.perform_work.ensures.restarts (alone o (step.Work c.in-Work.n c.in-Work.setting) c.perform_work.result.opened was left was_faults faults its is)

pub returns-in-Check-clause-restarts : goal.returns-in-Check-clause-restarts
returns-in-Check-clause-restarts g c = λ o was left was_faults faults ready is. c.perform_check.ensures.restarts
