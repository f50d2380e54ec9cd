use Rattle.std.proofs.Common.{ℕ, Ok, sym, subst}
use Rattle.disk_restart.specs.Runs.{RestartsDisk}
use Rattle.group_restart.specs.declared.calls.State.TheVariants as state
use Rattle.group_crew.specs.Failing.{drive_of}
use Rattle.group_core.proofs.Known.{all_know}
use Rattle.group_core.proofs.group.Group.start.Goals as goal

pub returns-in-Ok-new-clause-known : goal.returns-in-Ok-new-clause-known
returns-in-Ok-new-clause-known g c =
    all_know (g.D.Disk.contents c.args.disk) (g.D.Disk.contents c.open_disk.new.disk) c.in-Ok.opened.known c.in-Ok-new.crew.parts.items c.in-Ok.ensures.ends c.in-Ok-new.ensures.known

pub returns-in-Ok-new-clause-counted : goal.returns-in-Ok-new-clause-counted
returns-in-Ok-new-clause-counted g c =
    subst
    (λ (k : ℕ). RestartsDisk (drive_of g.D.Disk.alive g.D.Disk.contents c.args.disk) (Ok (state.Done k)) (drive_of g.D.Disk.alive g.D.Disk.contents c.open_disk.new.disk))
    (sym c.in-Ok-new.ensures.counter)
    c.in-Ok.ensures.opens
