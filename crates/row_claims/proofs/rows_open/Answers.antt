use Rattle.row_claims.proofs.rows_open.Goals as goal
use Rattle.row_claims.proofs.Staying.{rows_open}

pub returns : goal.returns
returns c = rows_open c.both_tell.ensures
