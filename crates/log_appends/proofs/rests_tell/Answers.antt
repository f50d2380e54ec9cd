use Rattle.log_appends.proofs.rests_tell.Goals as goal
use Rattle.log_appends.proofs.Rests.{appends_leave, last_allowed, last_with, last_without, rest_told}

pub returns : goal.returns
returns c =
    let again = c.reading_laws.ensures.again in
    let cut = c.reading_laws.ensures.cut in
    let none = c.whole_laws.ensures.empty in
    let read = c.log_laws.ensures.whole in
    record {
      none = none;
      without = last_without again cut none read;
      with_rest = last_with again cut none read;
      told = rest_told again cut none read;
      allowed = last_allowed again cut none read;
      leave = appends_leave again cut none read;
    }
