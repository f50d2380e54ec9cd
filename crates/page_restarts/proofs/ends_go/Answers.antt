use Rattle.page_restarts.proofs.ends_go.Goals as goal
use Rattle.page_restarts.proofs.Ending.{end_goes}

pub returns : goal.returns
returns c = end_goes c.restarts_go.ensures.end
