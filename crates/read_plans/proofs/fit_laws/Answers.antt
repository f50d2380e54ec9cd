use Rattle.read_plans.proofs.Fitting.{closings_read_fit, queue_read_fits, fits_go_on}
use Rattle.read_plans.proofs.Taken.{opens_are_taken}
use Rattle.read_plans.proofs.fit_laws.Goals as goal

pub returns-clause-closings : goal.returns-clause-closings
returns-clause-closings c = closings_read_fit c.read_course_laws.ensures c.read_laws.ensures.apart c.plan_laws.ensures.closings

pub returns-clause-queue : goal.returns-clause-queue
returns-clause-queue c = queue_read_fits c.read_course_laws.ensures c.read_laws.ensures.apart c.plan_laws.ensures.queue

pub returns-clause-same : goal.returns-clause-same
returns-clause-same c = fits_go_on

pub returns-clause-opens : goal.returns-clause-opens
returns-clause-opens c = opens_are_taken c.read_course_laws.ensures c.read_laws.ensures.apart c.plan_laws.ensures.takes
