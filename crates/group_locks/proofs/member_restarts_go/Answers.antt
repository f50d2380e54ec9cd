use Rattle.group_locks.proofs.member_restarts_go.Goals as goal
use Rattle.group_locks.proofs.Restarts.{restart_steps}

pub returns : goal.returns
returns c = restart_steps (record {
  numbers = c.names_have_numbers.ensures;
  run = c.keeps_sound.ensures.run;
  stay = c.groups_begin.ensures.stays;
  nobody = c.books_tell.ensures.nobody;
  waits = c.rollbacks_change.ensures.waits;
  tell = c.slots_stay.ensures.tell;
  reach = c.slots_stay.ensures.local;
  told = c.events_go.ensures.told;
  events = c.restarts_go.ensures;
  follow = c.restarts_follow.ensures.follows;
  standings = c.restarts_follow.ensures.standings;
  adopt = c.adoptions_go.ensures;
  keep = c.members_keep_free.ensures;
  leave = c.resting_puts_none.ensures.local;
})
