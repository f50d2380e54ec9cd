use Rattle.failed_claims.proofs.claims_handed_over.Goals as goal
use Rattle.failed_claims.proofs.Handing.{hands_over}

pub returns : goal.returns
returns c = hands_over c.names_are_apart.ensures.apart c.names_are_apart.ensures.rollback
