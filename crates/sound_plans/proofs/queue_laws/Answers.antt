use Rattle.sound_plans.proofs.Queues.{queue_appends, empty_queue_settles}
use Rattle.sound_plans.proofs.Done.{settled_is_done}
use Rattle.sound_plans.proofs.queue_laws.Goals as goal

pub returns-clause-appends : goal.returns-clause-appends
returns-clause-appends c = queue_appends

pub returns-clause-empty : goal.returns-clause-empty
returns-clause-empty c = empty_queue_settles

pub returns-clause-done : goal.returns-clause-done
returns-clause-done c = settled_is_done c.open_laws.ensures.ended
