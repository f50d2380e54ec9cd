use Rattle.report_check.proofs.Settling.{stands_once, tells_history, tells_alone}
use Rattle.report_check.proofs.laws.soundness_laws.Goals as goal

pub returns-clause-once : goal.returns-clause-once
returns-clause-once c = stands_once

pub returns-clause-history : goal.returns-clause-history
returns-clause-history c = tells_history

pub returns-clause-alone : goal.returns-clause-alone
returns-clause-alone c = tells_alone
