use Rattle.read_plans.proofs.Ends.{tails_are_read, ends_are_read, ends_are_known, endings_read_fit}
use Rattle.read_plans.proofs.end_laws.Goals as goal

pub returns-clause-tails : goal.returns-clause-tails
returns-clause-tails c = tails_are_read

pub returns-clause-ends : goal.returns-clause-ends
returns-clause-ends c = ends_are_read

pub returns-clause-known : goal.returns-clause-known
returns-clause-known c = ends_are_known

pub returns-clause-endings : goal.returns-clause-endings
returns-clause-endings c = endings_read_fit
