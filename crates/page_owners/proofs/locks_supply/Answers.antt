use Rattle.page_owners.proofs.locks_supply.Goals as goal
use Rattle.page_owners.proofs.Supplying.{Facts, locks_supply}

pub returns : goal.returns
returns c =
    let facts : Facts = record {
      lawful = c.sends_lawfully.ensures;
      pages = c.pages_have_numbers.ensures;
      has = c.books_tell.ensures.slot;
      gives = c.claims_give.ensures.gives;
      run = c.keeps_sound.ensures.run;
      others = c.moves_leave_others.ensures.others;
      event = c.events_go.ensures.event;
    } in
    locks_supply facts
