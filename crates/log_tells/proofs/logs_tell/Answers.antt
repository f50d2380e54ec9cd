use Rattle.log_tells.proofs.logs_tell.Goals as goal
use Rattle.log_tells.proofs.Moving.{starts, stays}
use Rattle.log_tells.proofs.Disk.{goes_on, others}

pub returns : goal.returns
returns c = record { start = starts; told = stays; logs = goes_on; others = others }
