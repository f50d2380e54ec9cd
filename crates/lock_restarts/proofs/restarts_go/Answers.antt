use Rattle.lock_restarts.proofs.restarts_go.Goals as goal
use Rattle.lock_restarts.proofs.Events.{events_go}

pub returns : goal.returns
returns c = events_go (record {
  lawful = c.sends_lawfully.ensures;
  local = c.local_moves_stay.ensures;
  stay = c.groups_begin.ensures.stays;
  still = c.stills_stay.ensures;
  changes = c.changes_go.ensures;
})
