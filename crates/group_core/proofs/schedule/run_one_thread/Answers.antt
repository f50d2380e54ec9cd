use Rattle.std.proofs.Common.{ℕ, ◌+◌, subst, sym}
use Rattle.group_core.proofs.Going.{on, stays}
use Rattle.group_core.proofs.Runs.{SoFar, begins, goes_on}
use Rattle.group_core.proofs.schedule.run_one_thread.Goals as goal

pub loop-taken-init : goal.loop-taken-init
loop-taken-init g c = (
  begins g.C.CacheFace.directory g.D.Disk.alive g.D.Disk.contents g.D.Disk.faults c.args.group.now c.args.generator.now,
  stays (g.D.Disk.faults c.args.group.now.disk) c.args.group.now.faults.items c.args.group.now.fault,
)

pub loop-taken-preserved : goal.loop-taken-preserved
loop-taken-preserved g c = (
  subst (λ (after : ℕ). SoFar g.C.CacheFace.directory g.D.Disk.alive g.D.Disk.contents g.D.Disk.faults c.args.group.now c.args.generator.now (c.loop-taken._taken + 1) c.step.new.self after) (sym c.in-Some.ensures.next)
      (goes_on g.C.CacheFace.directory g.D.Disk.alive g.D.Disk.contents g.D.Disk.faults c.args.group.now c.loop-taken.group c.step.new.self c.args.generator.now c.loop-taken.generator c.loop-taken._taken c.in-Some.event
      c.loop-taken.invariant.0 c.in-Some.ensures.drawn c.in_ok-step.ensures.takes),
  on (g.D.Disk.faults c.args.group.now.disk) (g.D.Disk.faults c.loop-taken.group.disk) (g.D.Disk.faults c.step.new.self.disk) c.args.group.now.faults.items c.loop-taken.group.faults.items c.step.new.self.faults.items
      c.args.group.now.fault c.loop-taken.group.fault c.step.new.self.fault c.loop-taken.invariant.1 c.in_ok-step.ensures.goes,
)

pub returns-in_err-step-clause-goes : goal.returns-in_err-step-clause-goes
returns-in_err-step-clause-goes g c =
    on (g.D.Disk.faults c.args.group.now.disk) (g.D.Disk.faults c.loop-taken.group.disk) (g.D.Disk.faults c.step.new.self.disk) c.args.group.now.faults.items c.loop-taken.group.faults.items c.step.new.self.faults.items
    c.args.group.now.fault c.loop-taken.group.fault c.step.new.self.fault c.loop-taken.invariant.1 c.in_err-step.ensures.goes
