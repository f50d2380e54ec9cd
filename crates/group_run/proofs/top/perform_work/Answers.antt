use Rattle.std.proofs.Common.{◌≡◌, ℕ, Bool, false, Option, Some, refl, sym, subst}
use Rattle.member_core.specs.declared.member.Member.{Member}
use Rattle.ds_model.specs.declared.script.Script.{Script}
use Rattle.checked_run.specs.Outcomes.fault as fault
use Rattle.checked_run.specs.declared.account.Account.{Account}
use Rattle.checked_run.specs.declared.ended.Outcome.TheVariants as outcome
use Rattle.checked_run.specs.Leading.{kind_of}
use Rattle.checked_run.specs.Outcomes.{Comes, HasCause, Plays}
use Rattle.group_run.specs.Tellings.{short_telling}
use Rattle.group_run.specs.declared.status.Status.TheVariants as status
use Rattle.group_run.specs.Ends.{TellsDamage, Works}
use Rattle.ds_disk.specs.Contents.{Becomes}
use Rattle.disk_restart.specs.Keeping.{KeepsRecords}
use Rattle.checked_run.specs.Restarted.{IsLeftByRestarts}
use Rattle.group_run.proofs.Restarting.{left_same, left_unopened, same_self, wanted_tells, wanting_tells}
use Rattle.group_run.proofs.top.perform_work.Goals as goal

pub returns-in-Err-clause-works : goal.returns-in-Err-clause-works
returns-in-Err-clause-works g c =
    let kind = kind_of Member g.D.Disk.alive g.D.Disk.contents g.D.Disk.faults in
    let was = g.D.Disk.contents c.args.disk in
    let before = g.D.Disk.faults c.args.disk in
    let told = c.or_wanting.ensures (short_telling status.NoMemory) tt in
    let none : HasCause before before fault.NoMemory = record {
      failed = λ e. let f : fault.NoMemory ≡ fault.Failed = e in cc;
      lawful = λ place e. let f : fault.NoMemory ≡ fault.Unlawful place = e in cc;
    } in
    subst (λ x. Works kind c.args.n was before (g.D.Disk.faults x.disk) (g.D.Disk.contents x.disk) x.opened x.opening x.account x.telling) (sym c.unopened.ensures)
    (record { outcome = outcome.Unopened fault.NoMemory; comes = (none, refl); told_is = (refl, refl, told) })

pub returns-in-Ok-clause-works : goal.returns-in-Ok-clause-works
returns-in-Ok-clause-works g c =
    let kind = kind_of Member g.D.Disk.alive g.D.Disk.contents g.D.Disk.faults in
    let was = g.D.Disk.contents c.args.disk in
    let before = g.D.Disk.faults c.args.disk in
    let left = c.run.result.disk in
    let now = g.D.Disk.faults left in
    let after = g.D.Disk.contents left in
    let account = c.run.result.account in
    let came = c.came_of.result in
    let untraced = subst (λ (b : Bool). Comes was before now account (Plays kind c.in-Ok.script c.args.setting.now.seed b was before now after account) c.run.result.outcome) c.requires.untraced c.run.ensures.comes in
    let seeded = subst (λ (s : Option ℕ). Comes was before now account (Plays kind c.in-Ok.script s false was before now after account) c.run.result.outcome) c.requires.seeded untraced in
    let its = subst (λ (s : Script). Comes was before now account (Plays kind s (Some c.args.n) false was before now after account) c.run.result.outcome) c.in-Ok.ensures seeded in
    subst (λ (a : Account). Works kind c.args.n was before (g.D.Disk.faults came.disk) (g.D.Disk.contents came.disk) came.opened came.opening a came.telling) (sym c.came_of.ensures.account)
    (subst (λ d. Works kind c.args.n was before (g.D.Disk.faults d) (g.D.Disk.contents d) came.opened came.opening account came.telling) (sym c.came_of.ensures.disk)
    (record { outcome = c.run.result.outcome; comes = its; told_is = c.came_of.ensures.tells }))

pub returns-in-Err-clause-left : goal.returns-in-Err-clause-left
returns-in-Err-clause-left g c = λ closed. subst (λ x. Becomes (g.D.Disk.contents c.args.disk) (g.D.Disk.contents x.disk) KeepsRecords) (sym c.unopened.ensures) (c.keeping_laws.ensures.itself (g.D.Disk.contents c.args.disk))

pub returns-in-Ok-clause-left : goal.returns-in-Ok-clause-left
returns-in-Ok-clause-left g c = λ closed.
    subst (λ d. Becomes (g.D.Disk.contents c.args.disk) (g.D.Disk.contents d) KeepsRecords) (sym c.came_of.ensures.disk)
    (c.came_of.ensures.left (g.D.Disk.contents c.args.disk) (g.D.Disk.contents c.run.result.disk) c.run.ensures.left closed)

pub returns-in-Err-clause-restarts : goal.returns-in-Err-clause-restarts
returns-in-Err-clause-restarts g c =
    let told = c.or_wanting.ensures (short_telling status.NoMemory) tt in
    subst (λ x. x.opened ≡ false → IsLeftByRestarts g.D.Disk.alive g.D.Disk.contents c.args.disk (TellsDamage x.telling.status) x.disk) (sym c.unopened.ensures)
    (λ closed. left_same g.D.Disk.alive g.D.Disk.contents c.args.disk c.args.disk (TellsDamage c.or_wanting.result.status) (same_self (g.D.Disk.contents c.args.disk))
    (λ v at e. wanting_tells v at (wanted_tells (short_telling status.NoMemory) c.or_wanting.result told v at e)))

pub returns-in-Ok-clause-restarts : goal.returns-in-Ok-clause-restarts
returns-in-Ok-clause-restarts g c = λ closed.
    let came = c.came_of.result in
    subst (λ d. IsLeftByRestarts g.D.Disk.alive g.D.Disk.contents c.args.disk (TellsDamage came.telling.status) d) (sym c.came_of.ensures.disk)
    (left_unopened g.D.Disk.alive g.D.Disk.contents (Some c.args.n) c.args.disk c.run.result.disk c.run.result.outcome came.opened came.opening came.telling c.came_of.ensures.tells c.run.ensures.restarts closed)
