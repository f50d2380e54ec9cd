use Rattle.index_leaf.proofs.New.{root_first, root_stamped, leaf_first, leaf_stamped, root_search, leaf_search, root_node, leaf_node}
use Rattle.index_leaf.proofs.laws.format_laws.Goals as goal

pub returns-clause-root : goal.returns-clause-root
returns-clause-root c = λ table. root_first table

pub returns-clause-root_stamped : goal.returns-clause-root_stamped
returns-clause-root_stamped c = λ table lrsn. root_stamped table lrsn

pub returns-clause-leaf : goal.returns-clause-leaf
returns-clause-leaf c = λ table. leaf_first table

pub returns-clause-leaf_stamped : goal.returns-clause-leaf_stamped
returns-clause-leaf_stamped c = λ table lrsn. leaf_stamped table lrsn

pub returns-clause-root_search : goal.returns-clause-root_search
returns-clause-root_search c = λ page key h. root_search page key h

pub returns-clause-leaf_search : goal.returns-clause-leaf_search
returns-clause-leaf_search c = λ page key h. leaf_search page key h

pub returns-clause-root_node : goal.returns-clause-root_node
returns-clause-root_node c = λ page h. root_node page h

pub returns-clause-leaf_node : goal.returns-clause-leaf_node
returns-clause-leaf_node c = λ page h. leaf_node page h
