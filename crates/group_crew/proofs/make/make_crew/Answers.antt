use Rattle.std.proofs.Common.{refl, ap}
use Rattle.script_phases.specs.declared.progress.Progress.{Progress}
use Rattle.group_crew.proofs.Made.{made_crew}
use Rattle.group_crew.proofs.make.make_crew.Goals as goal

pub returns-clause-fresh : goal.returns-clause-fresh
returns-clause-fresh g c =
    made_crew g.C.CacheFace.directory c.args.counter _ c.in_ok-facility.ensures c.in_ok-parts.ensures.down c.in_ok-parts.ensures.numbered (ap (λ (p : Progress). p.begun) c.new-progress.ensures) (ap (λ (p : Progress). p.groupfails) c.new-progress.ensures) refl c.in_ok-fates.ensures
