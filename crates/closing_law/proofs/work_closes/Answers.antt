use Rattle.closing_law.proofs.work_closes.Goals as goal
use Rattle.closing_law.proofs.Events.{closes_stay}
use Rattle.closing_law.proofs.Locals.{closes_reach}
use Rattle.closing_law.proofs.Telling.{closes_begin}

pub returns : goal.returns
returns c = record { begin = closes_begin; event = closes_stay c.both_tell.ensures c.sends_lawfully.ensures; local = closes_reach }
