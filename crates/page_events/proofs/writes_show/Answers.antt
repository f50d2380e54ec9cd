use Rattle.page_events.proofs.writes_show.Goals as goal
use Rattle.page_events.proofs.Calls.{shows_put}

pub returns : goal.returns
returns c = shows_put c.pages_have_numbers.ensures
