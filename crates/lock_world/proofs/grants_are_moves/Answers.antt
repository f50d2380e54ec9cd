use Rattle.lock_world.proofs.grants_are_moves.Goals as goal
use Rattle.lock_world.proofs.Grants.{obtains, grants}

pub returns : goal.returns
returns c = record { obtain = obtains; grant = grants }
