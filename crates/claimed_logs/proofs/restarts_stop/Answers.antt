use Rattle.claimed_logs.proofs.restarts_stop.Goals as goal
use Rattle.claimed_logs.proofs.Alike.{Facts as AlikeFacts}
use Rattle.claimed_logs.proofs.Below.{rests_below, stops_below}
use Rattle.claimed_logs.proofs.Stopping.{restarts_stop}

pub returns : goal.returns
returns c =
    let alike : AlikeFacts = record {
      both = c.both_tell.ensures;
      tell = c.open_trans_tell.ensures;
      all = c.opens_are_all.ensures;
      last = c.appends_tell.ensures.last;
      whole = c.appends_tell.ensures.whole;
      leave = c.rests_tell.ensures.leave;
    } in
    record {
      stops = restarts_stop (record { alike = alike; stops = c.stops_are_claimed.ensures.stops; rests = c.stops_are_claimed.ensures.rests });
      below = stops_below c.appends_tell.ensures.last c.rests_tell.ensures.with_rest;
      rests = rests_below c.rests_tell.ensures.with_rest;
    }
