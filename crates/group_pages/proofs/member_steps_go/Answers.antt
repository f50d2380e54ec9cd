use Rattle.group_pages.proofs.member_steps_go.Goals as goal
use Rattle.group_pages.proofs.Members.{member_steps}

pub returns : goal.returns
returns c = member_steps (record {
  carry = record {
    stay = c.others_stay_up.ensures;
    restart = c.others_still_restart.ensures;
    own = c.failures_retain.ensures.other;
    list = c.restarts_list.ensures.other;
    undrawn = c.restarts_stay_undrawn.ensures.other;
  };
  event = c.events_go.ensures.event;
  recorded = c.numbers_are_recorded.ensures;
  told = c.events_go.ensures.told;
  lawful = c.sends_lawfully.ensures;
  obtain = c.retained_pages_keep_out.ensures.obtain;
  grant = c.retained_pages_keep_out.ensures.grant;
  spare = c.commands_retain.ensures.spare;
  pages = c.pages_have_numbers.ensures;
  has = c.books_tell.ensures.slot;
  gives = c.claims_give.ensures.gives;
  own = c.own_claims_stay.ensures;
  in_x = c.pages_in_x.ensures.event;
  told_x = c.pages_in_x.ensures.told;
  steps = c.member_steps_go.ensures;
  others = c.moves_spare.ensures;
}) c.events_go-2.ensures c.commands_stay.ensures.command
