use Rattle.page_world.proofs.owners_are_moves.Goals as goal
use Rattle.page_world.proofs.Owning.{locks, unlocks, purges, forces}

pub returns : goal.returns
returns c = record { locks = locks; unlocks = unlocks; purges = purges; forces = forces }
