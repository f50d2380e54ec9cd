use Rattle.restart_claims.proofs.stops_are_claimed.Goals as goal
use Rattle.restart_claims.proofs.Stopping.{rests_claimed, stops_claimed}

pub returns : goal.returns
returns c = record { stops = stops_claimed c.closings_tell.ensures.stops; rests = rests_claimed c.closings_tell.ensures.rests }
