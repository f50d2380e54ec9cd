use Rattle.sound_plans.proofs.Planned_closings.{closings_fit}
use Rattle.sound_plans.proofs.Fitting_queue.{queue_fits}
use Rattle.sound_plans.proofs.Planned.{plan_appends}
use Rattle.sound_plans.proofs.Planned_ends.{plan_takes_opens}
use Rattle.sound_plans.proofs.Counted.{numbers_suffice}
use Rattle.sound_plans.proofs.plan_laws.Goals as goal

pub returns-clause-closings : goal.returns-clause-closings
returns-clause-closings c = closings_fit c.open_laws.ensures.tell c.open_laws.ensures.undone

pub returns-clause-queue : goal.returns-clause-queue
returns-clause-queue c = queue_fits c.open_laws.ensures.tell

pub returns-clause-appends : goal.returns-clause-appends
returns-clause-appends c = plan_appends (closings_fit c.open_laws.ensures.tell c.open_laws.ensures.undone) (queue_fits c.open_laws.ensures.tell) c.queue_laws.ensures.appends

pub returns-clause-numbers : goal.returns-clause-numbers
returns-clause-numbers c = numbers_suffice c.open_laws.ensures.tell

pub returns-clause-takes : goal.returns-clause-takes
returns-clause-takes c = plan_takes_opens c.open_laws.ensures.tell (queue_fits c.open_laws.ensures.tell)
