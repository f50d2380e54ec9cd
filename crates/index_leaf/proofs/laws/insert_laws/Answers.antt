use Rattle.index_leaf.proofs.Taken.{taken, taken_stamped, taken_rising, taken_leaf, taken_branch, taken_right, taken_node}
use Rattle.index_leaf.proofs.laws.insert_laws.Goals as goal

pub returns-clause-fields : goal.returns-clause-fields
returns-clause-fields c = λ page e h. taken page e h

pub returns-clause-stamped : goal.returns-clause-stamped
returns-clause-stamped c = λ page e lrsn h. taken_stamped page e lrsn h

pub returns-clause-rising : goal.returns-clause-rising
returns-clause-rising c = λ page new e h s none. taken_rising page new e h s none

pub returns-clause-leaf : goal.returns-clause-leaf
returns-clause-leaf c = λ page new e key h leaf inside none. taken_leaf page new e key h leaf inside none

pub returns-clause-branch : goal.returns-clause-branch
returns-clause-branch c = λ page new e key h branch s inside. taken_branch page new e key h branch s inside

pub returns-clause-right : goal.returns-clause-right
returns-clause-right c = λ page new e key h beyond. taken_right page new e key h beyond

pub returns-clause-node : goal.returns-clause-node
returns-clause-node c = λ page new e h n room low inside none. taken_node page new e h n room low inside none
