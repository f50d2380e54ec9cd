use Rattle.std.proofs.Common.{◌≡◌, IfOk, sym, subst}
use Rattle.ds_disk.specs.Contents.{Becomes}
use Rattle.disk_restart.specs.Keeping.{KeepsRecords}
use Rattle.group_run.specs.Tellings.{short_telling, checked_status}
use Rattle.group_run.specs.Ends.{Checks, TellsDamage}
use Rattle.checked_run.specs.Restarted.{IsLeftByRestarts}
use Rattle.group_run.proofs.Restarting.{checked_tells, left_same, wanted_tells}
use Rattle.group_run.proofs.top.perform_check.Goals as goal

pub returns-clause-checks : goal.returns-clause-checks
returns-clause-checks g c =
    let was = g.D.Disk.contents c.args.disk in
    let before = g.D.Disk.faults c.args.disk in
    let made = subst (λ s. IfOk c.short_telling-telling.result (λ t. t ≡ short_telling s)) c.checked_status.ensures c.short_telling-telling.ensures in
    let told = c.or_wanting.ensures (short_telling (checked_status c.check-told.result)) made in
    subst (λ x. Checks was (g.D.Disk.contents x.disk) before (g.D.Disk.faults x.disk) x.telling) (sym c.unopened.ensures)
    (record { came = c.check-told.result; checked = c.check-told.ensures; told_is = told })

pub returns-clause-left : goal.returns-clause-left
returns-clause-left g c =
    subst (λ x. Becomes (g.D.Disk.contents c.args.disk) (g.D.Disk.contents x.disk) KeepsRecords) (sym c.unopened.ensures)
    (c.keeping_laws.ensures.same (g.D.Disk.contents c.args.disk) (g.D.Disk.contents c.check-told.new.disk) c.check-told.ensures.same)

pub returns-clause-restarts : goal.returns-clause-restarts
returns-clause-restarts g c =
    let made = subst (λ s. IfOk c.short_telling-telling.result (λ t. t ≡ short_telling s)) c.checked_status.ensures c.short_telling-telling.ensures in
    let told = c.or_wanting.ensures (short_telling (checked_status c.check-told.result)) made in
    subst (λ x. IsLeftByRestarts g.D.Disk.alive g.D.Disk.contents c.args.disk (TellsDamage x.telling.status) x.disk) (sym c.unopened.ensures)
    (left_same g.D.Disk.alive g.D.Disk.contents c.args.disk c.check-told.new.disk (TellsDamage c.or_wanting.result.status) c.check-told.ensures.same
    (λ v at e. checked_tells c.check-told.result v at (wanted_tells (short_telling (checked_status c.check-told.result)) c.or_wanting.result told v at e)))
