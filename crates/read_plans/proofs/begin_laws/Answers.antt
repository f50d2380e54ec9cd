use Rattle.read_plans.proofs.Beginning.{number_is_read, undo_of_read_begins}
use Rattle.read_plans.proofs.begin_laws.Goals as goal

pub returns-clause-number : goal.returns-clause-number
returns-clause-number c = number_is_read c.read_laws.ensures.greatest

pub returns-clause-begins : goal.returns-clause-begins
returns-clause-begins c = undo_of_read_begins c.fit_laws.ensures.closings c.fit_laws.ensures.queue (number_is_read c.read_laws.ensures.greatest) c.course_laws.ensures.begins
