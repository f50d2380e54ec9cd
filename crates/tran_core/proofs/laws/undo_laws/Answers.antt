use Rattle.tran_core.proofs.Locked.{undone}
use Rattle.tran_core.proofs.laws.undo_laws.Goals as goal

pub returns : goal.returns
returns c = undone
