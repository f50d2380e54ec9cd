use Rattle.log_record.proofs.Records.{record_takes, record_again, record_cut}
use Rattle.log_record.proofs.laws.reading_laws.Goals as goal

pub returns-clause-found : goal.returns-clause-found
returns-clause-found c = λ bytes r n fits e. record_takes bytes r n fits e

pub returns-clause-again : goal.returns-clause-again
returns-clause-again c = λ r rest h. record_again r rest h

pub returns-clause-cut : goal.returns-clause-cut
returns-clause-cut c = λ r n h lt. record_cut r n h lt
