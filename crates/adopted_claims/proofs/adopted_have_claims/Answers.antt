use Rattle.adopted_claims.proofs.adopted_have_claims.Goals as goal
use Rattle.adopted_claims.proofs.Rows.{adopted_have, rows_touched}

pub returns : goal.returns
returns c = record { rows = rows_touched; claims = adopted_have c.claims_tell.ensures.tell c.claims_tell.ensures.spots }
