use Rattle.claimed_logs.proofs.failures_logged.Goals as goal
use Rattle.claimed_logs.proofs.Alike.{Facts as AlikeFacts}
use Rattle.claimed_logs.proofs.Failing.{Facts, handed_fails, restart_fails, up_fails}

pub returns : goal.returns
returns c =
    let alike : AlikeFacts = record {
      both = c.both_tell.ensures;
      tell = c.open_trans_tell.ensures;
      all = c.opens_are_all.ensures;
      last = c.appends_tell.ensures.last;
      whole = c.appends_tell.ensures.whole;
      leave = c.rests_tell.ensures.leave;
    } in
    let facts : Facts = record {
      one = c.logs_claimed.ensures.one;
      spare = c.moves_spare.ensures;
      up = c.failures_claim.ensures.up;
      unread = c.failures_claim.ensures.unread;
      locked = c.failures_claim.ensures.locked;
      alike = alike;
      begin = c.logs_stay_locked.ensures.begin;
      spell = c.appends_tell.ensures.spell;
      counted = c.numbers_stay.ensures.begin;
      without = c.rests_tell.ensures.without;
    } in
    record { up = up_fails facts; restart = restart_fails facts; handed = handed_fails facts }
