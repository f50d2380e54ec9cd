use Rattle.claimed_logs.proofs.steps_logged.Goals as goal
use Rattle.claimed_logs.proofs.Restarts.{handed, restart_steps}
use Rattle.claimed_logs.proofs.Up.{up_steps}

pub returns : goal.returns
returns c = record {
  up = up_steps (record {
    alike = record {
      both = c.both_tell.ensures;
      tell = c.open_trans_tell.ensures;
      all = c.opens_are_all.ensures;
      last = c.appends_tell.ensures.last;
      whole = c.appends_tell.ensures.whole;
      leave = c.rests_tell.ensures.leave;
    };
    event = c.numbers_stay.ensures.event;
    reach = c.numbers_stay.ensures.local;
    more = c.numbers_stay.ensures.more;
    commands = c.commands_count.ensures;
    forward = c.forward_stays.ensures.event;
    reaches = c.forward_stays.ensures.local;
    names = c.forward_stays.ensures.records;
    locked = c.logs_stay_locked.ensures.local;
    stay = c.logs_stay_locked.ensures.event;
    made = c.members_log.ensures.made;
  });
  restart = restart_steps (record { opens = c.opens_stay.ensures.event; reads = c.reads_true.ensures.event; lists = c.lists_go.ensures; stay = c.claims_stay.ensures.event });
  handed = handed (record { opens = c.opens_stay.ensures.handed; claims = c.claims_tell.ensures.handed });
}
