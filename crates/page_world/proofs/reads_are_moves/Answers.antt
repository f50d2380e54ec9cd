use Rattle.page_world.proofs.reads_are_moves.Goals as goal
use Rattle.page_world.proofs.Reading.{finds, finds_none}

pub returns : goal.returns
returns c = record { found = finds; empty = finds_none }
