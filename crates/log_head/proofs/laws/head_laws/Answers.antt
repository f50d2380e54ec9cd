use Rattle.log_head.proofs.Logs.{taken_is, record_left, filled_is, ended_is, bad_is}
use Rattle.log_head.proofs.laws.head_laws.Goals as goal

pub returns-clause-taken : goal.returns-clause-taken
returns-clause-taken c = λ log h r n is e. taken_is log h r n is e

pub returns-clause-left : goal.returns-clause-left
returns-clause-left c = λ log h r n is e. record_left log h r n is e

pub returns-clause-filled : goal.returns-clause-filled
returns-clause-filled c = λ log h bytes is le next. filled_is log h bytes is le next

pub returns-clause-ended : goal.returns-clause-ended
returns-clause-ended c = λ log h is e. ended_is log h is e

pub returns-clause-bad : goal.returns-clause-bad
returns-clause-bad c = λ log h field is e. bad_is log h field is e
