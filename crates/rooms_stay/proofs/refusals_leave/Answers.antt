use Rattle.rooms_stay.proofs.refusals_leave.Goals as goal
use Rattle.rooms_stay.proofs.Refused.{refusals_leave}

pub returns : goal.returns
returns g c = refusals_leave _ g.C.CacheFace.directory g.D.Disk.alive g.D.Disk.contents g.D.Disk.faults c.refusals_tell.ensures
