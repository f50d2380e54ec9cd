use Rattle.page_recoveries.proofs.phases_go.Goals as goal
use Rattle.page_recoveries.proofs.Phases as phases

pub returns : goal.returns
returns c = phases.phases_go (record {
  carry = record {
    stay = c.others_stay_up.ensures;
    restart = c.others_still_restart.ensures;
    own = c.failures_retain.ensures.other;
    list = c.restarts_list.ensures.other;
    undrawn = c.restarts_stay_undrawn.ensures.other;
  };
  restarts = c.restarts_go.ensures.begin;
  reads = c.readings_go.ensures.begin;
  owns = c.failures_retain.ensures.begin;
  lists = c.restarts_list.ensures.begin;
  undrawn = c.restarts_stay_undrawn.ensures.begin;
  stays = c.losses_are_moves.ensures.stays;
})
