use Rattle.page_restarts.proofs.readings_go.Goals as goal
use Rattle.page_restarts.proofs.Reading.{Facts, reading_begins, reading_goes, reading_owns}

pub returns : goal.returns
returns c =
    let frames = c.frames_are_moves.ensures in
    let facts : Facts = record {
      good = c.coherent_pages.ensures.run;
      leave = c.commands_leave.ensures;
      sound = c.keeps_entries_apart.ensures.unregister;
      places = frames.places;
      unregisters = frames.unregisters;
      stay = c.owners_go.ensures.stay;
      reaches = c.locals_go.ensures;
    } in
    record { begin = reading_begins; event = reading_goes facts; owns = reading_owns }
