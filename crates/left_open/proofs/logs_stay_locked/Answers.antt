use Rattle.left_open.proofs.logs_stay_locked.Goals as goal
use Rattle.left_open.proofs.Open.{locked_begins, locked_reaches}
use Rattle.left_open.proofs.Staying.{locked_stay}

pub returns : goal.returns
returns c = record {
  begin = locked_begins c.rows_stay.ensures.begin c.appends_tell.ensures.all;
  local = locked_reaches c.rows_stay.ensures.local c.appends_tell.ensures.all;
  event = locked_stay (record {
    puts = c.events_put.ensures;
    stay = c.rows_stay.ensures.event;
    all = c.appends_tell.ensures.all;
    spell = c.appends_tell.ensures.spell;
    whole = c.appends_tell.ensures.whole;
    last = c.appends_tell.ensures.last;
  });
}
