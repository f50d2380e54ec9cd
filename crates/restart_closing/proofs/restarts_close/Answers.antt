use Rattle.restart_closing.proofs.restarts_close.Goals as goal
use Rattle.restart_closing.proofs.Events.{closes_begin, closes_stay}
use Rattle.restart_closing.proofs.Logs.{Facts}

pub returns : goal.returns
returns c =
    let facts : Facts = record {
      whole = c.appends_tell.ensures.whole;
      last = c.appends_tell.ensures.last;
      without = c.rests_tell.ensures.without;
      with_rest = c.rests_tell.ensures.with_rest;
      allowed = c.rests_tell.ensures.allowed;
      both = c.both_tell.ensures;
      opens = c.open_trans_tell.ensures;
      opened = c.opens_are_allowed.ensures;
    } in
    record { begin = closes_begin; event = closes_stay facts c.rests_tell.ensures.none }
