use Rattle.restart_soundness.proofs.Ended.{ended_are_settled}
use Rattle.restart_soundness.proofs.ended_laws.Goals as goal

pub returns : goal.returns
returns c = ended_are_settled
