use Rattle.lock_world.proofs.groups_begin.Goals as goal
use Rattle.lock_world.proofs.Failing.{starts, begins_anew}
use Rattle.lock_world.proofs.Standing.{stays}

pub returns : goal.returns
returns c = record { starts = starts; begins_anew = begins_anew; stays = stays }
