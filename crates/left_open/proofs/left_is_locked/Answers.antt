use Rattle.left_open.proofs.left_is_locked.Goals as goal
use Rattle.left_open.proofs.Open.{left_is_locked}

pub returns : goal.returns
returns c = left_is_locked c.appends_tell.ensures.last c.open_trans_tell.ensures c.rows_open.ensures
