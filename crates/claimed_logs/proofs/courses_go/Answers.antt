use Rattle.claimed_logs.proofs.courses_go.Goals as goal
use Rattle.claimed_logs.proofs.Alike.{Facts as AlikeFacts}
use Rattle.claimed_logs.proofs.Below.{course_below}
use Rattle.claimed_logs.proofs.Courses.{Facts, course_ends, course_hands, course_steps}
use Rattle.claimed_logs.proofs.Ends.{ends_tell}
use Rattle.claimed_logs.proofs.Own.{resting_stays}

pub returns : goal.returns
returns c =
    let alike : AlikeFacts = record {
      both = c.both_tell.ensures;
      tell = c.open_trans_tell.ensures;
      all = c.opens_are_all.ensures;
      last = c.appends_tell.ensures.last;
      whole = c.appends_tell.ensures.whole;
      leave = c.rests_tell.ensures.leave;
    } in
    let facts : Facts = record {
      alike = alike;
      nothing = c.rests_tell.ensures.none;
      closes = c.restarts_close_truly.ensures;
      rests = c.restarts_rest.ensures.event;
      hands = c.restarts_rest.ensures.handed;
      takes = c.logs_taken_over.ensures.idle;
    } in
    record {
      steps = course_steps facts;
      hands = course_hands facts;
      ends = course_ends facts;
      below = course_below (record {
        last = c.appends_tell.ensures.last;
        with_rest = c.rests_tell.ensures.with_rest;
        without = c.rests_tell.ensures.without;
        nothing = c.rests_tell.ensures.none;
        closes = c.restarts_close_truly.ensures;
        rests = c.restarts_rest.ensures.event;
        lists = c.lists_go.ensures;
        reads = c.reads_true.ensures.event;
        opens = c.closings_tell.ensures.below;
      });
      tell = ends_tell (record { both = c.both_tell.ensures; lawful = c.sends_lawfully.ensures });
      rests = resting_stays (record {
        event = c.numbers_stay.ensures.event;
        reach = c.numbers_stay.ensures.local;
        more = c.numbers_stay.ensures.more;
        commands = c.commands_count.ensures;
        locked = c.logs_stay_locked.ensures.local;
        stay = c.logs_stay_locked.ensures.event;
      });
    }
