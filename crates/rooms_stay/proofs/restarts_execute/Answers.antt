use Rattle.rooms_stay.proofs.restarts_execute.Goals as goal
use Rattle.rooms_stay.proofs.OfRestart.{restarts_execute}

pub returns : goal.returns
returns c = restarts_execute
