use Rattle.log_rows.proofs.open_trans_tell.Goals as goal
use Rattle.log_rows.proofs.Opened.{open_tell}

pub returns : goal.returns
returns c = open_tell
