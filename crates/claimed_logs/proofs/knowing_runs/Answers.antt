use Rattle.claimed_logs.proofs.knowing_runs.Goals as goal
use Rattle.claimed_logs.proofs.Runs.{knowing_runs}

pub returns : goal.returns
returns g c = knowing_runs _ g.C.CacheFace.directory g.D.Disk.alive g.D.Disk.contents g.D.Disk.faults c.adoptions_found.ensures c.groups_run.ensures.runs
