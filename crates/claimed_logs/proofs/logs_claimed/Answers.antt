use Rattle.claimed_logs.proofs.logs_claimed.Goals as goal
use Rattle.claimed_logs.proofs.Alike.{Facts}
use Rattle.claimed_logs.proofs.Logs.{closes_leaves, fresh_logged, group_fails_logged, logs_know, logs_leave, one_logged}

pub returns : goal.returns
returns c =
    let alike : Facts = record {
      both = c.both_tell.ensures;
      tell = c.open_trans_tell.ensures;
      all = c.opens_are_all.ensures;
      last = c.appends_tell.ensures.last;
      whole = c.appends_tell.ensures.whole;
      leave = c.rests_tell.ensures.leave;
    } in
    record {
      fresh = fresh_logged (record {
        alike = alike;
        tell = c.open_trans_tell.ensures;
        begin = c.logs_stay_locked.ensures.begin;
        spell = c.appends_tell.ensures.spell;
        nothing = c.rests_tell.ensures.none;
        counted = c.numbers_stay.ensures.begin;
      });
      know = logs_know;
      fails = group_fails_logged;
      leave = logs_leave c.rests_tell.ensures.none;
      closing = closes_leaves c.rests_tell.ensures.none;
      one = one_logged (record { left = c.claims_stay.ensures.other; more = c.numbers_stay.ensures.more });
    }
