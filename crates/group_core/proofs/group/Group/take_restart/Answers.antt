use Rattle.std.proofs.Common.{IfSome, sym, ap, subst, ◌∙◌}
use Rattle.group_crew.specs.States.{crew_state}
use Rattle.group_core.specs.declared.group.Group.{Group}
use Rattle.group_core.specs.Restarts.{StepIsKnown}
use Rattle.group_core.specs.Takes.{TakesOwn}
use Rattle.group_core.proofs.Owning.{known_in_hand, own_stepped, steps_in_hand}
use Rattle.group_core.proofs.group.Group.take_restart.Goals as goal

pub returns-clause-leads : goal.returns-clause-leads
returns-clause-leads g c =
    subst (λ (left : g.row.D.Denot). TakesOwn g.C.CacheFace.directory g.D.Disk.alive g.D.Disk.contents c.enter_restart.new.self.fault c.args.self.now.crew c.args.self.now.disk 128 c.args.place c.is_stopped-has_failed.result c.enter_restart.new.self.crew left)
    (sym (ap (λ (group : Group g.row.D.Denot g.row.C.Denot g.row.P.Denot). group.disk) c.enter_restart.ensures.rest))
    (own_stepped g.C.CacheFace.directory g.D.Disk.alive g.D.Disk.contents c.enter_restart.new.self.fault c.args.self.now.crew c.enter_restart.new.self.crew c.args.self.now.disk c.step_restart.new.disk c.args.place c.is_stopped-has_failed.result
    (c.is_stopped-has_failed.ensures ∙ c.in_ok-enter_restart.ensures.failed) c.enter_restart.ensures.lawful
    (steps_in_hand g.D.Disk.alive g.D.Disk.contents c.enter_restart.new.self.fault (crew_state g.C.CacheFace.directory c.args.self.now.crew) c.args.self.now.crew.restart c.in-Some.restart c.args.self.now.disk
    (crew_state g.C.CacheFace.directory c.enter_restart.new.self.crew) c.step_restart.new.disk c.in-Some.is
    (record { reached = c.in_ok-call.reached; now = c.step_restart.new.restart; steps = c.in_ok-call.ensures.steps; enters = c.in_ok-enter_restart.ensures.enters })))

pub returns-clause-known : goal.returns-clause-known
returns-clause-known g c =
    let old = c.args.self.now.crew.parts.items in
    let new = c.enter_restart.new.self.crew.parts.items in
    subst (λ (left : g.row.D.Denot). IfSome c.args.self.now.crew.restart (λ r. StepIsKnown g.D.Disk.alive g.D.Disk.contents r c.args.self.now.disk left old new))
    (sym (ap (λ (group : Group g.row.D.Denot g.row.C.Denot g.row.P.Denot). group.disk) c.enter_restart.ensures.rest))
    (known_in_hand g.D.Disk.alive g.D.Disk.contents c.args.self.now.crew.restart c.in-Some.restart c.args.self.now.disk c.step_restart.new.disk old new c.in-Some.is
    (record { reached = c.in_ok-call.reached; now = c.step_restart.new.restart; steps = c.in_ok-call.ensures.steps; known = c.in_ok-enter_restart.ensures.known }))
