use Rattle.lock_world.proofs.claims_are_moves.Goals as goal
use Rattle.lock_world.proofs.Claims.{locals, gives_up}

pub returns : goal.returns
returns c = record { local = locals; gives_up = gives_up }
