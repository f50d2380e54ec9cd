use Rattle.stood_rows.proofs.Founds.{none_found, both_found, same_found}
use Rattle.stood_rows.proofs.Tellings.{found_told}
use Rattle.stood_rows.proofs.unstood.unstood_laws.Goals as goal

pub returns-clause-none : goal.returns-clause-none
returns-clause-none c = none_found

pub returns-clause-both : goal.returns-clause-both
returns-clause-both c = both_found

pub returns-clause-same : goal.returns-clause-same
returns-clause-same c = same_found

pub returns-clause-whole : goal.returns-clause-whole
returns-clause-whole c = found_told
