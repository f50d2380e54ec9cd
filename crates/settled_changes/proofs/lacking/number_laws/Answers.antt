use Rattle.settled_changes.proofs.Lasts.{numbers_tell}
use Rattle.settled_changes.proofs.lacking.number_laws.Goals as goal

pub returns : goal.returns
returns c = numbers_tell
