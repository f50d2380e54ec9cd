use Rattle.restart_closing.proofs.closings_tell.Goals as goal
use Rattle.restart_closing.proofs.Few.{logs_leave_below, logs_leave_few}
use Rattle.restart_closing.proofs.Logs.{Facts}
use Rattle.restart_closing.proofs.Telling.{hands_all, none_left, over_closed, rests_open, stops_open}

pub returns : goal.returns
returns c =
    let facts : Facts = record {
      whole = c.appends_tell.ensures.whole;
      last = c.appends_tell.ensures.last;
      without = c.rests_tell.ensures.without;
      with_rest = c.rests_tell.ensures.with_rest;
      allowed = c.rests_tell.ensures.allowed;
      both = c.both_tell.ensures;
      opens = c.open_trans_tell.ensures;
      opened = c.opens_are_allowed.ensures;
    } in
    record { over = over_closed; handed = hands_all c.both_tell.ensures; stops = stops_open facts; rests = rests_open facts; left = none_left; few = logs_leave_few; below = logs_leave_below }
