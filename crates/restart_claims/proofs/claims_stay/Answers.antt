use Rattle.restart_claims.proofs.claims_stay.Goals as goal
use Rattle.restart_claims.proofs.Staying.{Facts, claims_left, claims_stay}

pub returns : goal.returns
returns c =
    let facts : Facts = record {
      numbered = c.names_have_numbers.ensures;
      lawful = c.sends_lawfully.ensures;
      local = c.local_moves_stay.ensures;
      follows = c.restarts_follow.ensures.follows;
      standings = c.restarts_follow.ensures.standings;
      spares = c.opens_tell.ensures.left;
      lists = c.lists_go.ensures;
    } in
    record { event = claims_stay facts; other = claims_left }
