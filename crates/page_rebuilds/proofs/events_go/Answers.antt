use Rattle.page_rebuilds.proofs.events_go.Goals as goal
use Rattle.page_rebuilds.proofs.Rebuilding.{Facts, events_go}

pub returns : goal.returns
returns c =
    let losses = c.losses_are_moves.ensures in
    let facts : Facts = record {
      stays = losses.stays;
      reads_log = losses.reads_log;
      rebuilds = losses.rebuilds;
      rebuilt = losses.rebuilt;
      leave = c.commands_leave.ensures;
      show = c.writes_show.ensures;
      sound = c.keeps_entries_apart.ensures.rebuilt;
      good = c.coherent_pages.ensures.run;
    } in
    events_go facts
