use Rattle.page_recoveries.proofs.member_failures_go.Goals as goal
use Rattle.page_recoveries.proofs.Failing.{member_fails}

pub returns : goal.returns
returns c = member_fails (record {
  carry = record {
    stay = c.others_stay_up.ensures;
    restart = c.others_still_restart.ensures;
    own = c.failures_retain.ensures.other;
    list = c.restarts_list.ensures.other;
    undrawn = c.restarts_stay_undrawn.ensures.other;
  };
  fails = c.failures_go.ensures;
  locks = c.members_fail.ensures;
  owners = c.failures_retain.ensures.failure;
  spare = c.commands_retain.ensures.failed;
  bare = c.resting_members_are_bare.ensures.begin;
  has = c.books_tell.ensures.slot;
})
