use Rattle.claimed_logs.proofs.phases_logged.Goals as goal
use Rattle.claimed_logs.proofs.Phases.{phases_logged}

pub returns : goal.returns
returns c = phases_logged (record {
  spare = c.moves_spare.ensures;
  begins = c.claims_stay.ensures.begin;
  opens = c.opens_stay.ensures.begin;
  reads = c.reads_true.ensures.begin;
  left = c.claims_stay-2.ensures.other;
  more = c.numbers_stay.ensures.more;
  closes = c.restarts_close.ensures.begin;
  short = c.needs_are_few.ensures.short;
  few = c.closings_tell.ensures.few;
})
