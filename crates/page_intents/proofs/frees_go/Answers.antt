use Rattle.page_intents.proofs.frees_go.Goals as goal
use Rattle.page_intents.proofs.Freeing.{free_goes}

pub returns : goal.returns
returns c = free_goes c.pages_have_numbers.ensures c.frames_are_moves.ensures.unregisters
