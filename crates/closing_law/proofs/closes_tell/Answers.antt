use Rattle.closing_law.proofs.closes_tell.Goals as goal
use Rattle.closing_law.proofs.Telling.{closes_tell}

pub returns : goal.returns
returns c = closes_tell
