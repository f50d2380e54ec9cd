use Rattle.refusal_causes.proofs.Granting as granting
use Rattle.refusal_causes.proofs.answers_given.Goals as goal

pub returns : goal.returns
returns g c = granting.answers_given _ g.C.CacheFace.directory g.D.Disk.alive g.D.Disk.contents g.D.Disk.faults c.sends_lawfully.ensures
