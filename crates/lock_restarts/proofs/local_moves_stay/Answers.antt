use Rattle.lock_restarts.proofs.local_moves_stay.Goals as goal
use Rattle.lock_restarts.proofs.Locals.{locals_stay}

pub returns : goal.returns
returns c = locals_stay
