use Rattle.restart_claims.proofs.restarts_close_truly.Goals as goal
use Rattle.restart_claims.proofs.Whole.{closes_truly}

pub returns : goal.returns
returns c = closes_truly c.rests_tell.ensures.told c.whole_is_read.ensures c.restarts_close.ensures.event
