use Rattle.lock_events.proofs.standings_stay.Goals as goal
use Rattle.lock_events.proofs.Standings.{standings_stay}

pub returns : goal.returns
returns c = standings_stay c.sends_lawfully.ensures
