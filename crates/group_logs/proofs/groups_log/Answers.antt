use Rattle.group_logs.proofs.groups_log.Goals as goal
use Rattle.group_logs.proofs.Groups.{logs_go}

pub returns : goal.returns
returns g c = logs_go _ g.C.CacheFace.directory g.D.Disk.alive g.D.Disk.contents g.D.Disk.faults c.members_log.ensures.comes
