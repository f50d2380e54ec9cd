use Rattle.page_owners.proofs.members_go.Goals as goal
use Rattle.page_owners.proofs.Steps.{Facts, events_go, told_go}

pub returns : goal.returns
returns c =
    let slots = c.slots_stay.ensures in
    let facts : Facts = record {
      has = c.books_tell.ensures.slot;
      run = c.keeps_sound.ensures.run;
      others = c.moves_leave_others.ensures.others;
      slots = slots.event;
      reach = slots.local;
      event = c.events_go.ensures.event;
      told = c.events_go.ensures.told;
      page_event = c.events_go-2.ensures.event;
      page_told = c.events_go-2.ensures.told;
      beside = c.groups_stand.ensures.beside;
      stand = c.groups_stand.ensures.event;
      in_x = c.pages_in_x.ensures.event;
      told_x = c.pages_in_x.ensures.told;
      supply = c.locks_supply.ensures;
    } in
    record { event = events_go facts; told = told_go facts }
