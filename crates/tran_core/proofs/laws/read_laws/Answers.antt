use Rattle.tran_core.proofs.Told.{keeps_page, keeps_done, opened_told}
use Rattle.tran_core.proofs.Fitting.{keeps}
use Rattle.tran_core.proofs.laws.read_laws.Goals as goal

pub returns-clause-begins : goal.returns-clause-begins
returns-clause-begins c = opened_told

pub returns-clause-fits : goal.returns-clause-fits
returns-clause-fits c = keeps

pub returns-clause-done : goal.returns-clause-done
returns-clause-done c = keeps_done

pub returns-clause-page : goal.returns-clause-page
returns-clause-page c = keeps_page
