use Rattle.page_intents.proofs.others_stay.Goals as goal
use Rattle.page_intents.proofs.Owning.{stay_goes}

pub returns : goal.returns
returns c = stay_goes c.losses_are_moves.ensures.stays
