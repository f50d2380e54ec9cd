use Rattle.log_heads.proofs.Order.{kept_by}
use Rattle.log_heads.proofs.Reading.{goes_on}
use Rattle.log_heads.proofs.Fills.{end_is, wants_again, wants_next, fill_goes, taken_leaves, fill_leaves}
use Rattle.log_heads.proofs.laws.heads_laws.Goals as goal

pub returns-clause-taken : goal.returns-clause-taken
returns-clause-taken c = λ logs s is. goes_on c.whole_laws.ensures.none c.whole_laws.ensures.size c.head_laws.ensures.taken c.head_laws.ensures.ended logs s is

pub returns-clause-end : goal.returns-clause-end
returns-clause-end c = λ logs s is. end_is c.whole_laws.ensures.empty c.whole_laws.ensures.size logs s is

pub returns-clause-again : goal.returns-clause-again
returns-clause-again c = λ s member at count e. wants_again s member at count e

pub returns-clause-next : goal.returns-clause-next
returns-clause-next c = λ s member at count e. wants_next s member at count e

pub returns-clause-filled : goal.returns-clause-filled
returns-clause-filled c = λ logs s member bytes some is wanted next. fill_goes c.head_laws.ensures.filled logs s member bytes some is wanted next

pub returns-clause-no_more : goal.returns-clause-no_more
returns-clause-no_more c = λ s. taken_leaves c.whole_laws.ensures.size s

pub returns-clause-less : goal.returns-clause-less
returns-clause-less c = λ s member bytes some wanted. fill_leaves s member bytes some wanted

pub returns-clause-kept : goal.returns-clause-kept
returns-clause-kept c = λ records. kept_by records
