use Rattle.page_recoveries.proofs.resting_members_go.Goals as goal
use Rattle.page_recoveries.proofs.Resting.{resting_steps}

pub returns : goal.returns
returns c = resting_steps (record {
  carry = record {
    stay = c.others_stay_up.ensures;
    restart = c.others_still_restart.ensures;
    own = c.failures_retain.ensures.other;
    list = c.restarts_list.ensures.other;
    undrawn = c.restarts_stay_undrawn.ensures.other;
  };
  stays = c.stages_go.ensures.still;
  leave = c.resting_members_leave.ensures;
  bare = c.resting_members_are_bare.ensures.event;
  keep = c.resting_members_cast.ensures.keep;
  casts = c.resting_members_cast.ensures.cast;
  stage_casts = c.stages_go.ensures.casts;
  undrawn = c.restarts_stay_undrawn.ensures.casts;
  lawful = c.sends_lawfully.ensures;
  retain = c.commands_retain.ensures.command;
  spare = c.commands_retain.ensures.spare;
  rebuild = c.events_go.ensures;
  quiet = c.commands_stay.ensures.command;
})
