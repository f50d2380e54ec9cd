use Rattle.index_leaf.proofs.Steps.{right_is, down_is, found_is, absent_is, finds_is, leads_is, lost_is}
use Rattle.index_leaf.proofs.laws.search_step_laws.Goals as goal

pub returns-clause-right : goal.returns-clause-right
returns-clause-right c = λ page key number. right_is page key number

pub returns-clause-down : goal.returns-clause-down
returns-clause-down c = λ page key child s is. down_is page key child s is

pub returns-clause-found : goal.returns-clause-found
returns-clause-found c = λ page key place is. found_is page key place is

pub returns-clause-absent : goal.returns-clause-absent
returns-clause-absent c = λ page key e is leaf h same. absent_is page key e is leaf h same

pub returns-clause-finds : goal.returns-clause-finds
returns-clause-finds c = λ page e s leaf inside h. finds_is page e s leaf inside h

pub returns-clause-leads : goal.returns-clause-leads
returns-clause-leads c = λ page key e s branch inside h. leads_is page key e s branch inside h

pub returns-clause-lost : goal.returns-clause-lost
returns-clause-lost c = λ page key e is branch h. lost_is page key e is branch h
