use Rattle.marks_law.proofs.claims_stay.Goals as goal
use Rattle.marks_law.proofs.Runs.{claims_stay}

pub returns : goal.returns
returns c = claims_stay
