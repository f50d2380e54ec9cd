use Rattle.marks_law.proofs.transactions_stay.Goals as goal
use Rattle.marks_law.proofs.Locals.{moves_stay}
use Rattle.marks_law.proofs.Runs.{events_stay}

pub returns : goal.returns
returns c = record { event = events_stay; local = moves_stay }
