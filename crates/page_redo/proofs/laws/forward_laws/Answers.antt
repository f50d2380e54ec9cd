use Rattle.page_redo.proofs.Forwards.{is_redo, reaches_last, needs_its_own}
use Rattle.page_redo.proofs.laws.forward_laws.Goals as goal

pub returns-clause-redo : goal.returns-clause-redo
returns-clause-redo c = is_redo c.chain_laws.ensures.others

pub returns-clause-last : goal.returns-clause-last
returns-clause-last c = reaches_last c.chain_laws.ensures.others c.redo_laws.ensures.redo

pub returns-clause-own : goal.returns-clause-own
returns-clause-own c = needs_its_own
