use Rattle.restart_owners.proofs.events_go.Goals as goal
use Rattle.restart_owners.proofs.Going.{Facts, Known, events_go}

pub returns : goal.returns
returns c =
    let known : Known = record {
      pages = c.pages_have_numbers.ensures;
      lawful = c.sends_lawfully.ensures;
      spare = c.commands_retain.ensures.spare;
      retain = c.restarts_list.ensures.retain;
      run = c.keeps_sound.ensures.run;
      others = c.moves_leave_others.ensures.others;
      locks = c.restarts_go.ensures;
    } in
    let facts : Facts = record { known = known; page = c.events_go.ensures; supply = c.worlds_supply.ensures } in
    events_go facts
