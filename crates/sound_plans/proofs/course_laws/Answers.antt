use Rattle.sound_plans.proofs.Courses.{undo_begins, closing_goes, undo_goes, pages_go, ending_goes}
use Rattle.sound_plans.proofs.course_laws.Goals as goal

pub returns-clause-begins : goal.returns-clause-begins
returns-clause-begins c = undo_begins

pub returns-clause-closing : goal.returns-clause-closing
returns-clause-closing c = closing_goes

pub returns-clause-undo : goal.returns-clause-undo
returns-clause-undo c = undo_goes

pub returns-clause-pages : goal.returns-clause-pages
returns-clause-pages c = pages_go

pub returns-clause-ending : goal.returns-clause-ending
returns-clause-ending c = ending_goes
