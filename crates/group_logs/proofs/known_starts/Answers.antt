use Rattle.group_logs.proofs.known_starts.Goals as goal
use Rattle.group_logs.proofs.Known.{starts_know}

pub returns : goal.returns
returns g c = starts_know g.row.P.Denot g.C.CacheFace.directory
