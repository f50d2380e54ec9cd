use Rattle.group_locks.proofs.resting_members_go.Goals as goal
use Rattle.group_locks.proofs.RestingSteps.{resting_steps}

pub returns : goal.returns
returns c = resting_steps (record {
  run = c.keeps_sound.ensures.run;
  stay = c.groups_begin.ensures.stays;
  waits = c.rollbacks_change.ensures.waits;
  tell = c.slots_stay.ensures.tell;
  reach = c.slots_stay.ensures.local;
  slots = c.slots_stay.ensures.event;
  command = c.commands_stay.ensures.command;
  keep = c.members_keep_free.ensures;
  answer = record {
    numbers = c.names_have_numbers.ensures;
    stay = c.groups_begin.ensures.stays;
    clean = c.queries_are_moves.ensures.clean;
    conflict = c.queries_are_moves.ensures.conflict;
    ask = c.queries_are_moves.ensures.asks;
    tells = c.books_tell.ensures.answers;
    command = c.commands_stay.ensures.command;
    claims = c.claims_stay.ensures;
    lawful = c.sends_lawfully.ensures;
  };
  nothing = c.resting_puts_none.ensures.waits;
  leave = c.resting_puts_none.ensures.local;
})
