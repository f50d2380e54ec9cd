use Rattle.tran_core.proofs.Locked.{keeps}
use Rattle.tran_core.proofs.laws.lock_laws.Goals as goal

pub returns-clause-keeps : goal.returns-clause-keeps
returns-clause-keeps c = keeps
