use Rattle.log_checkpoint.proofs.Steps.{step_is, tells, filled_is, wanted_before, wanted_few}
use Rattle.log_checkpoint.proofs.laws.search_laws.Goals as goal

pub returns-clause-step : goal.returns-clause-step
returns-clause-step c = λ log end s is.
    step_is c.whole_laws.ensures.size c.whole_laws.ensures.framed c.whole_laws.ensures.front c.whole_laws.ensures.own c.whole_laws.ensures.empty c.whole_laws.ensures.goes c.whole_laws.ensures.ends c.whole_laws.ensures.bad log end s is

pub returns-clause-told : goal.returns-clause-told
returns-clause-told c = λ log end s found is told.
    tells c.whole_laws.ensures.size c.whole_laws.ensures.framed c.whole_laws.ensures.front c.whole_laws.ensures.own c.whole_laws.ensures.empty c.whole_laws.ensures.goes c.whole_laws.ensures.ends c.whole_laws.ensures.bad log end s found is told

pub returns-clause-filled : goal.returns-clause-filled
returns-clause-filled c = λ log end s bytes is wanted next. filled_is log end s bytes is wanted next

pub returns-clause-before : goal.returns-clause-before
returns-clause-before c = λ s at count e. wanted_before s at count e

pub returns-clause-few : goal.returns-clause-few
returns-clause-few c = λ s count wanted. wanted_few s count wanted
