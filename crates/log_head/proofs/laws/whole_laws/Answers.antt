use Rattle.log_head.proofs.Fronts.{record_size, record_framed, record_front, record_own, none_read}
use Rattle.log_head.proofs.Whole.{whole_first, whole_none, parts_whole, parts_go_on, parts_end, parts_bad}
use Rattle.log_head.proofs.laws.whole_laws.Goals as goal

pub returns-clause-size : goal.returns-clause-size
returns-clause-size c = λ bytes r n e. record_size bytes r n e

pub returns-clause-framed : goal.returns-clause-framed
returns-clause-framed c = λ bytes r n e. record_framed bytes r n e

pub returns-clause-front : goal.returns-clause-front
returns-clause-front c = λ bytes k ne. record_front k bytes ne

pub returns-clause-own : goal.returns-clause-own
returns-clause-own c = λ bytes k r n e le. record_own k bytes r n e le

pub returns-clause-first : goal.returns-clause-first
returns-clause-first c = λ bytes r n e. whole_first bytes r n e

pub returns-clause-none : goal.returns-clause-none
returns-clause-none c = λ bytes fault e. whole_none bytes fault e

pub returns-clause-empty : goal.returns-clause-empty
returns-clause-empty c = none_read

pub returns-clause-parts : goal.returns-clause-parts
returns-clause-parts c = λ bytes p e. parts_whole bytes p e

pub returns-clause-goes : goal.returns-clause-goes
returns-clause-goes c = λ bytes r n e. parts_go_on bytes r n e

pub returns-clause-ends : goal.returns-clause-ends
returns-clause-ends c = λ bytes short. parts_end bytes short

pub returns-clause-bad : goal.returns-clause-bad
returns-clause-bad c = λ bytes field e. parts_bad bytes field e
