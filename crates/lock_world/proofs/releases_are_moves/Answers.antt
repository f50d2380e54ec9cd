use Rattle.lock_world.proofs.releases_are_moves.Goals as goal
use Rattle.lock_world.proofs.Names.{purges, releases}

pub returns : goal.returns
returns c = record { purge = purges; release = releases }
