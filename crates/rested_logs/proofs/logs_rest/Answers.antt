use Rattle.rested_logs.proofs.logs_rest.Goals as goal
use Rattle.rested_logs.proofs.Anew.{AnewFacts, closing_closes, groups_stand_anew, rests_logged}

pub returns : goal.returns
returns c =
    let facts : AnewFacts = record {
      empty = c.logs_leave_closed.ensures.none;
      rests = c.rest_laws.ensures;
      know = c.known_ends.ensures.anew;
      fresh = c.logs_claimed.ensures.fresh;
    } in
    record { closing = closing_closes; logs = rests_logged facts; anew = groups_stand_anew facts }
