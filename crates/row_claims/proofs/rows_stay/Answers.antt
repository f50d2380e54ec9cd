use Rattle.row_claims.proofs.rows_stay.Goals as goal
use Rattle.row_claims.proofs.Staying.{Facts, rows_begin, rows_reach, rows_stay}

pub returns : goal.returns
returns c =
    let facts : Facts = record {
      both = c.both_tell.ensures;
      closes = c.work_closes.ensures.event;
      begins = c.work_closes.ensures.begin;
      reach = c.work_closes.ensures.local;
      tell = c.closes_tell.ensures;
      keep = c.locks_stay.ensures.event;
      moves = c.locks_stay.ensures.local;
      change = c.locks_stay.ensures.change;
      slots = c.slots_stay.ensures.event;
      slots_reach = c.slots_stay.ensures.local;
      slots_begin = c.slots_stay.ensures.begin;
    } in
    record { begin = rows_begin facts; event = rows_stay facts; local = rows_reach facts }
