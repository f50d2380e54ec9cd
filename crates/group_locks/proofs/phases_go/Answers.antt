use Rattle.group_locks.proofs.phases_go.Goals as goal
use Rattle.group_locks.proofs.Phases.{phases_move}

pub returns : goal.returns
returns c = phases_move (record { run = c.keeps_sound.ensures.run; restarts = c.failures_are_moves.ensures.restarts; stay = c.groups_begin.ensures.stays })
