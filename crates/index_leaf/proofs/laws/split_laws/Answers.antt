use Rattle.index_leaf.proofs.Halved.{can_split, left_halved, left_stamped, right_halved, right_stamped, left_below, left_above, right_from, low_inside, left_node, right_node, never_above}
use Rattle.index_leaf.proofs.laws.split_laws.Goals as goal

pub returns-clause-left : goal.returns-clause-left
returns-clause-left c = λ left number h lt. left_halved left number h lt

pub returns-clause-left_stamped : goal.returns-clause-left_stamped
returns-clause-left_stamped c = λ left number lrsn h lt. left_stamped left number lrsn h lt

pub returns-clause-right : goal.returns-clause-right
returns-clause-right c = λ left fresh number h f. right_halved left fresh number h f

pub returns-clause-right_stamped : goal.returns-clause-right_stamped
returns-clause-right_stamped c = λ left fresh number lrsn h f. right_stamped left fresh number lrsn h f

pub returns-clause-below : goal.returns-clause-below
returns-clause-below c = λ left new number key n full h lt. left_below left new number key n full h lt

pub returns-clause-beyond : goal.returns-clause-beyond
returns-clause-beyond c = λ left new low number key h le. left_above left new low number key h le

pub returns-clause-from : goal.returns-clause-from
returns-clause-from c = λ left new key s full h le. right_from left new key s full h le

pub returns-clause-inside : goal.returns-clause-inside
returns-clause-inside c = λ left n full. low_inside left n full

pub returns-clause-left_node : goal.returns-clause-left_node
returns-clause-left_node c = λ left new number n full h. left_node left new number n full h

pub returns-clause-right_node : goal.returns-clause-right_node
returns-clause-right_node c = λ left new n full h. right_node left new n full h

pub returns-clause-never_above : goal.returns-clause-never_above
returns-clause-never_above c = λ left first second low number key h g beyond. never_above left first second low number key h g beyond

pub returns-clause-can : goal.returns-clause-can
returns-clause-can c = λ left l full fits. can_split left l full fits
