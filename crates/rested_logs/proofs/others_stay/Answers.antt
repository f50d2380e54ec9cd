use Rattle.rested_logs.proofs.others_stay.Goals as goal
use Rattle.rested_logs.proofs.Others.{others_stay}

pub returns : goal.returns
returns g c = others_stay _ g.C.CacheFace.directory g.D.Disk.alive g.D.Disk.contents g.D.Disk.faults c.groups_log.ensures
