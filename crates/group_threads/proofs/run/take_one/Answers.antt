use Rattle.std.proofs.lemmas.Result.{on_ok_weaker}
use Rattle.group_threads.proofs.Looked.{from_looked, from_one, looked_same}
use Rattle.group_threads.proofs.run.take_one.Goals as goal

pub returns-in-Some-clause-runs : goal.returns-in-Some-clause-runs
returns-in-Some-clause-runs g c =
    on_ok_weaker c.step.result (λ takes. from_one g.C.CacheFace.directory g.D.Disk.alive g.D.Disk.contents g.D.Disk.faults c.args.group.now c.step.new.self c.in-Some.event takes c.step.ensures.goes.later) c.step.ensures.takes

pub returns-in-None-clause-runs : goal.returns-in-None-clause-runs
returns-in-None-clause-runs g c = from_looked g.C.CacheFace.directory g.D.Disk.alive g.D.Disk.contents g.D.Disk.faults c.args.group.now c.args.group.now (looked_same c.args.group.now)
