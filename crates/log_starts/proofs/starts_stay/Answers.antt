use Rattle.log_starts.proofs.starts_stay.Goals as goal
use Rattle.log_starts.proofs.Starts.{grown_begins, nothing_begins}

pub returns : goal.returns
returns c = record { nothing = nothing_begins; grown = grown_begins c.reading_laws.ensures.found c.whole_laws.ensures.first c.whole_laws.ensures.none c.whole_laws.ensures.front }
