use Rattle.page_recoveries.proofs.member_restarts_go.Goals as goal
use Rattle.page_recoveries.proofs.Restarts.{restart_steps}

pub returns : goal.returns
returns c = restart_steps (record {
  carry = record {
    stay = c.others_stay_up.ensures;
    restart = c.others_still_restart.ensures;
    own = c.failures_retain.ensures.other;
    list = c.restarts_list.ensures.other;
    undrawn = c.restarts_stay_undrawn.ensures.other;
  };
  stages = c.stages_go.ensures.event;
  ends = c.stages_go.ensures.over;
  lists = c.restarts_list.ensures.event;
  undrawn = c.restarts_stay_undrawn.ensures.event;
  quiet = c.restarts_stay_undrawn.ensures.quiet;
  follow = c.restarts_follow.ensures.follows;
  standings = c.restarts_follow.ensures.standings;
  nobody = c.books_tell.ensures.nobody;
  has = c.books_tell.ensures.slot;
  spare = c.commands_retain.ensures.spare;
  bare = c.resting_members_are_bare.ensures.event;
  keep = c.resting_members_cast.ensures.keep;
  free = c.ends_go.ensures.free;
  local = c.local_moves_stay.ensures;
  names = c.names_have_numbers.ensures;
  pages = c.pages_have_numbers.ensures;
  told = c.events_go.ensures.told;
  told_x = c.pages_in_x.ensures.told;
})
