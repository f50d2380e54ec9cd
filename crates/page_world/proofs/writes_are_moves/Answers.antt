use Rattle.page_world.proofs.writes_are_moves.Goals as goal
use Rattle.page_world.proofs.Writing.{writes}

pub returns : goal.returns
returns c = writes
