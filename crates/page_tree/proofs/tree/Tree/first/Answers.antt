use Rattle.page_tree.proofs.Trees.{at_Fork, first_is}
use Rattle.page_tree.proofs.tree.Tree.first.Goals as goal

pub returns-in-Fork-clause-least : goal.returns-in-Fork-clause-least
returns-in-Fork-clause-least c = first_is _ _ _ _ _ (at_Fork c.self.view_is c.self.invariant c.in-Fork.is)
