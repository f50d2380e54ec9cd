use Rattle.rested_logs.proofs.logs_leave_closed.Goals as goal
use Rattle.rested_logs.proofs.Closed.{Facts, alike_leave, empty_closes, empty_leave, groups_leave}

pub returns : goal.returns
returns c =
    let facts : Facts = record {
      again = c.reading_laws.ensures.again;
      sound = c.log_laws.ensures.sound;
      parts = c.log_laws.ensures.whole;
      tell = c.open_trans_tell.ensures;
      all = c.appends_tell.ensures.all;
      nothing = c.rests_tell.ensures.none;
    } in
    record {
      alike = alike_leave facts;
      groups = groups_leave facts c.logs_claimed.ensures.leave c.logs_claimed.ensures.closing;
      none = empty_closes facts;
      empty = empty_leave facts c.logs_claimed.ensures.closing;
    }
