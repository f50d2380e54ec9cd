use Rattle.lock_restarts.proofs.changes_go.Goals as goal
use Rattle.lock_restarts.proofs.Changes.{changes_go}

pub returns : goal.returns
returns c = changes_go (record {
  numbers = c.names_have_numbers.ensures;
  lawful = c.sends_lawfully.ensures;
  local = c.local_moves_stay.ensures;
  obtain = c.locks_asked_for_go.ensures.obtain;
  grant = c.locks_asked_for_go.ensures.grant;
  ask = c.locks_asked_for_go.ensures.ask;
  release = c.locks_left_go.ensures.release;
  purge = c.locks_left_go.ensures.purge;
  up = c.locks_left_go.ensures.up;
})
