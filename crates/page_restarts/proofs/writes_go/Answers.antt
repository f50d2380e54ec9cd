use Rattle.page_restarts.proofs.writes_go.Goals as goal
use Rattle.page_restarts.proofs.Hands.{write_goes}

pub returns : goal.returns
returns c = write_goes c.writes_are_moves.ensures c.refusals_stay.ensures.write
