use Rattle.lock_events.proofs.events_go.Goals as goal
use Rattle.lock_events.proofs.Events.{events_go, told_goes}
use Rattle.lock_events.proofs.Intents.{Facts}

pub returns : goal.returns
returns c =
    let facts : Facts = record {
      tell = c.slots_stay.ensures.tell;
      claims = c.claims_stay.ensures;
      stay = c.groups_begin.ensures.stays;
      obtain = c.claims_go.ensures.obtain;
      grant = c.claims_go.ensures.grant;
      ask = c.queries_go.ensures.ask;
      answer = c.queries_go.ensures.answer;
      release = c.closings_go.ensures.release;
      page = c.closings_go.ensures.page;
      purge = c.closings_go.ensures.purge;
      end = c.closings_go.ensures.end;
    } in
    record { event = events_go c.sends_lawfully.ensures c.keeps_sound.ensures.run c.homes_go.ensures.reaches facts; told = told_goes c.homes_go.ensures.reaches }
