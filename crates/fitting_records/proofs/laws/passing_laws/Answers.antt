use Rattle.fitting_records.proofs.Going.{goes}
use Rattle.fitting_records.proofs.Passes.{passed_none, passed_all}
use Rattle.fitting_records.proofs.laws.passing_laws.Goals as goal

pub returns-clause-none : goal.returns-clause-none
returns-clause-none c = λ lists h. passed_none lists h

pub returns-clause-one : goal.returns-clause-one
returns-clause-one c = λ s walked lists member r p may some most. goes s walked lists member r p may some most

pub returns-clause-all : goal.returns-clause-all
returns-clause-all c = λ s walked logs p. passed_all s walked logs p
