use Rattle.lock_restarts.proofs.stills_stay.Goals as goal
use Rattle.lock_restarts.proofs.Stills.{stills_stay}

pub returns : goal.returns
returns c = stills_stay (record { lawful = c.sends_lawfully.ensures; local = c.local_moves_stay.ensures; stay = c.groups_begin.ensures.stays })
