use Rattle.page_intents.proofs.appends_go.Goals as goal
use Rattle.page_intents.proofs.Appending.{append_goes}

pub returns : goal.returns
returns c = append_goes c.owners_are_moves.ensures.forces
