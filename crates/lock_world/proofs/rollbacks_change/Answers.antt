use Rattle.lock_world.proofs.rollbacks_change.Goals as goal
use Rattle.lock_world.proofs.Postponed.{postponed_hands_on, rollback_waits, rollback_frees, rollback_ends}

pub returns : goal.returns
returns c = record { postponed = postponed_hands_on; waits = rollback_waits; released = rollback_frees; ended = rollback_ends }
