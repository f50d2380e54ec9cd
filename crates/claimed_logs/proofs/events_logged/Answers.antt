use Rattle.claimed_logs.proofs.events_logged.Goals as goal
use Rattle.claimed_logs.proofs.Events.{Facts, restart_events, up_events}
use Rattle.claimed_logs.proofs.Resting.{resting_events}

pub returns : goal.returns
returns c =
    let facts : Facts = record {
      alike = record {
        both = c.both_tell.ensures;
        tell = c.open_trans_tell.ensures;
        all = c.opens_are_all.ensures;
        last = c.appends_tell.ensures.last;
        whole = c.appends_tell.ensures.whole;
        leave = c.rests_tell.ensures.leave;
      };
      courses = record { steps = c.courses_go.ensures.steps; hands = c.courses_go.ensures.hands; ends = c.courses_go.ensures.ends; below = c.courses_go.ensures.below };
      counts = record { adopt = c.numbers_stay.ensures.adopted; reach = c.numbers_stay.ensures.local; more = c.numbers_stay.ensures.more };
      locked = c.logs_stay_locked.ensures.local;
      tell = c.courses_go.ensures.tell;
      lists = c.lists_go.ensures;
      one = c.logs_claimed.ensures.one;
      spare = c.moves_spare.ensures;
      made = c.members_log.ensures.made;
      up = c.steps_logged.ensures.up;
      members = c.members_go.ensures;
      restart = c.steps_logged.ensures.restart;
      handed = c.steps_logged.ensures.handed;
      follow = c.restarts_follow.ensures.follows;
      standings = c.restarts_follow.ensures.standings;
      commands = c.commands_count.ensures;
      reaches = c.forward_stays.ensures.local;
    } in
    record {
      up = up_events facts;
      restart = restart_events facts;
      resting = resting_events (record {
        one = facts.one;
        made = facts.made;
        left = record { left = c.claims_stay.ensures.other; more = c.numbers_stay.ensures.more };
        stays = c.courses_go.ensures.rests;
      });
    }
