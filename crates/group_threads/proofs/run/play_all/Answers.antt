use Rattle.std.proofs.Common.{OnOk, subst}
use Rattle.group_core.specs.Fresh.{RunsFrom}
use Rattle.group_threads.proofs.Looked.{from_looked, from_on, looked_same}
use Rattle.group_threads.proofs.run.play_all.Goals as goal

pub loop-init : goal.loop-init
loop-init g c = from_looked g.C.CacheFace.directory g.D.Disk.alive g.D.Disk.contents g.D.Disk.faults c.args.group c.args.group (looked_same c.args.group)

pub loop-preserved : goal.loop-preserved
loop-preserved g c =
    let directory = g.C.CacheFace.directory in
    let alive = g.D.Disk.alive in
    let contents = g.D.Disk.contents in
    let count = g.D.Disk.faults in
    from_on directory alive contents count c.args.group c.loop.group c.go_on-next.result.0 c.loop.invariant
    (subst (λ r. OnOk r (RunsFrom directory alive contents count c.loop.group c.go_on-next.result.0)) c.in_default-taken.is c.go_on-next.ensures.runs)
