use Rattle.lock_protocol.proofs.sound_claims.Goals as goal
use Rattle.lock_protocol.proofs.Runs.{always}

pub returns : goal.returns
returns c = always
