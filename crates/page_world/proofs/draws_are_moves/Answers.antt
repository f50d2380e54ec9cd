use Rattle.page_world.proofs.draws_are_moves.Goals as goal
use Rattle.page_world.proofs.Drawing.{draws, undoes}

pub returns : goal.returns
returns c = record { draws = draws; undoes = undoes }
