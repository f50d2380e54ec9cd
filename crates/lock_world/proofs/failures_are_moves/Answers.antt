use Rattle.lock_world.proofs.failures_are_moves.Goals as goal
use Rattle.lock_world.proofs.Claims.{restarts}
use Rattle.lock_world.proofs.Failing.{fails}
use Rattle.lock_world.proofs.Standing.{rises}

pub returns : goal.returns
returns c = record { fails = fails; restarts = restarts c.claims_give.ensures.gives; rises = rises }
