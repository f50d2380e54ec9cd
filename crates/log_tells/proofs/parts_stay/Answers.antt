use Rattle.log_tells.proofs.parts_stay.Goals as goal
use Rattle.log_tells.proofs.Covered.{covered, read_stays}
use Rattle.log_tells.proofs.Disk.{parts}

pub returns : goal.returns
returns c = record { parts = parts; covered = covered c.newest_copies.ensures.never_back; read = read_stays }
