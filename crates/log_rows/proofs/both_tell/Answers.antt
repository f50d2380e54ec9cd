use Rattle.log_rows.proofs.both_tell.Goals as goal
use Rattle.log_rows.proofs.Both.{both_changed, both_closed, both_rows}

pub returns : goal.returns
returns c = record { changed = both_changed; closed = both_closed; rows = both_rows }
