use Rattle.page_restarts.proofs.undoes_go.Goals as goal
use Rattle.page_restarts.proofs.Undoing.{undo_goes}

pub returns : goal.returns
returns c = undo_goes c.draws_are_moves.ensures.undoes
