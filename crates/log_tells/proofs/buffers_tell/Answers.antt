use Rattle.log_tells.proofs.buffers_tell.Goals as goal
use Rattle.log_tells.proofs.Disk.{fronts}
use Rattle.log_tells.proofs.Pending.{draws_pend, forces_pend}

pub returns : goal.returns
returns c = record { draws = draws_pend; forces = forces_pend; fronts = fronts }
