use Rattle.page_intents.proofs.writes_go.Goals as goal
use Rattle.page_intents.proofs.Writing.{write_goes}

pub returns : goal.returns
returns c = write_goes c.pages_have_numbers.ensures c.writes_are_moves.ensures c.refusals_stay.ensures.write
