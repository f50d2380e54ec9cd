use Rattle.page_events.proofs.events_go.Goals as goal
use Rattle.page_events.proofs.Facts.{Facts, KeepsSound}
use Rattle.page_events.proofs.Events.{events_go, told_goes}

pub returns : goal.returns
returns c =
    let kept = c.keeps_entries_apart.ensures in
    let sound : KeepsSound = record { read = kept.read; write = kept.write; unregister = kept.unregister; castout_read = kept.castout_read; castout_done = kept.castout_done; lose = kept.lose } in
    let casts = c.castouts_go.ensures in
    let draws = c.draws_go.ensures in
    let owners = c.owners_go.ensures in
    let facts : Facts = record {
      lawful = c.sends_lawfully.ensures;
      good = c.coherent_pages.ensures.run;
      numbers = c.pages_have_numbers.ensures;
      sound = sound;
      read = c.reads_go.ensures.read;
      fill = c.reads_go.ensures.fill;
      test = c.tests_go.ensures.test;
      write = c.writes_go.ensures;
      free = c.frees_go.ensures;
      append = c.appends_go.ensures;
      cast_read = casts.read;
      cast_write = casts.write;
      cast_done = casts.done;
      change = draws.change;
      undo = draws.undo;
      commit = draws.commit;
      obtain = owners.obtain;
      grant = owners.grant;
      release = owners.release;
      stay = c.others_stay.ensures;
      lose = c.losses_go.ensures;
      stale = c.locals_stay.ensures.stale;
      leave = c.transactions_leave.ensures;
      reaches = c.policies_go.ensures.reaches;
      log = c.policies_go.ensures.log;
    } in
    record { event = events_go facts; told = told_goes facts }
