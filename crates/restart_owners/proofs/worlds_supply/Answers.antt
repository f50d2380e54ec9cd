use Rattle.restart_owners.proofs.worlds_supply.Goals as goal
use Rattle.restart_owners.proofs.Supplying.{Facts, worlds_supply}

pub returns : goal.returns
returns c =
    let facts : Facts = record {
      pages = c.pages_have_numbers.ensures;
      names = c.names_have_numbers.ensures;
      gives = c.claims_give.ensures.gives;
      run = c.keeps_sound.ensures.run;
      others = c.moves_leave_others.ensures.others;
      lawful = c.sends_lawfully.ensures;
      event = c.restarts_go.ensures;
      obtain = c.retained_pages_keep_out.ensures.obtain;
      grant = c.retained_pages_keep_out.ensures.grant;
    } in
    worlds_supply facts
