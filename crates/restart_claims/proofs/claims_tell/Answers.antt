use Rattle.restart_claims.proofs.claims_tell.Goals as goal
use Rattle.restart_claims.proofs.Telling.{claims_begin, claims_hand, claims_tell, spots_claimed}

pub returns : goal.returns
returns c = record { begin = claims_begin; handed = claims_hand; tell = claims_tell c.opens_tell.ensures.touch; spots = spots_claimed }
