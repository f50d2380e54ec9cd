use Rattle.read_plans.proofs.Settling.{ended_is_settled}
use Rattle.read_plans.proofs.settled_laws.Goals as goal

pub returns : goal.returns
returns c = ended_is_settled
