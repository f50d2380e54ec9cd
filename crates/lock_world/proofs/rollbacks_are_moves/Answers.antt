use Rattle.lock_world.proofs.rollbacks_are_moves.Goals as goal
use Rattle.lock_world.proofs.Rollbacks.{postpones, takes_over}

pub returns : goal.returns
returns c = record { postpone = postpones; take_over = takes_over }
