use Rattle.claimed_logs.proofs.adoptions_found.Goals as goal
use Rattle.claimed_logs.proofs.Found.{adoptions_found}

pub returns : goal.returns
returns c = adoptions_found (record { lists = c.lists_go.ensures; follow = c.restarts_follow.ensures.follows; stay = c.claims_stay.ensures.event; have = c.adopted_have_claims.ensures.claims })
