use Rattle.refusal_causes.proofs.Running as running
use Rattle.refusal_causes.proofs.causes_held.Goals as goal

pub returns : goal.returns
returns g c = running.causes_held _ g.C.CacheFace.directory g.D.Disk.alive g.D.Disk.contents g.D.Disk.faults c.sends_lawfully.ensures
