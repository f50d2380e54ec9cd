use Rattle.page_restarts.proofs.events_go.Goals as goal
use Rattle.page_restarts.proofs.Events.{events_go}
use Rattle.page_restarts.proofs.Leading.{Facts}

pub returns : goal.returns
returns c =
    let frames = c.frames_are_moves.ensures in
    let owners = c.owners_go.ensures in
    let brought = c.hands_brought_forward.ensures in
    let keeps = c.keeps_entries_apart.ensures in
    let facts : Facts = record {
      good = c.coherent_pages.ensures.run;
      sound = record { read = keeps.read; write = keeps.write; unregister = keeps.unregister };
      leave = c.commands_leave.ensures;
      places = frames.places;
      unregisters = frames.unregisters;
      reads = brought.read;
      fill = c.reads_go.ensures.fill;
      tests = brought.test;
      write = c.writes_go.ensures;
      lock = owners.lock;
      give_up = owners.give_up;
      append = owners.append;
      stay = owners.stay;
      undo = c.undoes_go.ensures;
      reaches = c.locals_go.ensures;
      named = c.pages_have_numbers.ensures.named;
    } in
    events_go facts
