use Rattle.page_intents.proofs.losses_go.Goals as goal
use Rattle.page_intents.proofs.Placing.{lose_goes}

pub returns : goal.returns
returns c = lose_goes c.losses_are_moves.ensures.loses
