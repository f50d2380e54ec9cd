use Rattle.std.proofs.Common.{◌≤◌, sym, subst, ◌∙◌}
use Rattle.cache_structure.specs.State.{directory_of}
use Rattle.group_core.specs.Starts.{IsUnopened}
use Rattle.checked_run.specs.Leading.{Begins, OpensOver}
use Rattle.checked_run.proofs.Led.{begins_counted, begins_traced, opens_traced}
use Rattle.checked_run.proofs.Restarting.{untaken_by, wanting}
use Rattle.checked_run.proofs.run.begin.Goals.{then-is_traced, else-is_traced}
use Rattle.checked_run.proofs.run.begin.Goals as goal

pub returns-clause-begins : goal.returns-clause-begins
returns-clause-begins g c =
    let script = c.args.script.now in
    let made = c.in_ok-started.ensures in
    let counted = c.in_ok-group.ensures in
    let begins : Begins directory_of script c.in_ok-group.group =
    begins_counted directory_of script c.in_ok-started.started c.in_ok-group.group counted.same (made.script ∙ c.in-Ok-copy_script.ensures) made.fresh made.journal made.faults made.fault counted.counted in
    elim c.if-is_traced.branch [
      | then-is_traced w ↦ subst (Begins directory_of script) (sym w.group-is) (begins_traced directory_of script c.in_ok-group.group w.trace.new.self w.trace.ensures begins)
      | else-is_traced w ↦ subst (Begins directory_of script) (sym w.group-is) begins
    ]

pub returns-clause-opens : goal.returns-clause-opens
returns-clause-opens g c =
    let made = c.in_ok-started.ensures in
    let started : OpensOver g.D.Disk.alive g.D.Disk.contents c.args.disk c.in_ok-started.started = record { restarts = made.counted; known = made.known } in
    let opens : OpensOver g.D.Disk.alive g.D.Disk.contents c.args.disk c.in_ok-group.group = subst (λ x. OpensOver g.D.Disk.alive g.D.Disk.contents c.args.disk x) (sym c.in_ok-group.ensures.same) started in
    elim c.if-is_traced.branch [
      | then-is_traced w ↦ subst (λ x. OpensOver g.D.Disk.alive g.D.Disk.contents c.args.disk x) (sym w.group-is) (opens_traced g.D.Disk.alive g.D.Disk.contents c.args.disk c.in_ok-group.group w.trace.new.self w.trace.ensures opens)
      | else-is_traced w ↦ subst (λ x. OpensOver g.D.Disk.alive g.D.Disk.contents c.args.disk x) (sym w.group-is) opens
    ]

pub returns-in_default-clause-unopened : goal.returns-in_default-clause-unopened
returns-in_default-clause-unopened g c =
    subst (λ f. IsUnopened g.D.Disk.alive g.D.Disk.contents c.args.disk f.why f.disk) (sym c.no_memory.ensures) (wanting g.D.Disk.alive g.D.Disk.contents c.args.disk c.in_default.field-0)

pub returns-in_default-copy_script-clause-unopened : goal.returns-in_default-copy_script-clause-unopened
returns-in_default-copy_script-clause-unopened g c =
    subst (λ f. IsUnopened g.D.Disk.alive g.D.Disk.contents c.args.disk f.why f.disk) (sym c.no_memory-in_default-copy_script.ensures) (wanting g.D.Disk.alive g.D.Disk.contents c.args.disk c.in_default-copy_script.field-0)

pub returns-in_err-group-clause-unopened : goal.returns-in_err-group-clause-unopened
returns-in_err-group-clause-unopened g c =
    untaken_by g.D.Disk.alive g.D.Disk.contents c.args.disk c.in_ok-started.started.disk c.in_ok-started.started.crew.facility.counter c.in_err-group.field-0.0 c.from_residual-in_err-group.result c.from_residual-in_err-group.ensures.1
    c.in_err-group.ensures.left c.in_ok-started.ensures.counted

pub returns-clause-later : goal.returns-clause-later
returns-clause-later g c =
    let made = subst (λ x. g.D.Disk.faults c.args.disk ≤ g.D.Disk.faults x.disk) (sym c.in_ok-group.ensures.same) c.in_ok-started.ensures.disk in
    elim c.if-is_traced.branch [
      | then-is_traced w ↦ subst (λ x. g.D.Disk.faults c.args.disk ≤ g.D.Disk.faults x.disk) (sym w.group-is) (subst (λ x. g.D.Disk.faults c.args.disk ≤ g.D.Disk.faults x.disk) (sym w.trace.ensures) made)
      | else-is_traced w ↦ subst (λ x. g.D.Disk.faults c.args.disk ≤ g.D.Disk.faults x.disk) (sym w.group-is) made
    ]
