use Rattle.restart_law.proofs.lists_go.Goals as goal
use Rattle.restart_law.proofs.Going.{lists_go}

pub returns : goal.returns
returns c = lists_go c.open_trans_tell.ensures
