use Rattle.standing_threads.proofs.Keeping.{gets}
use Rattle.standing_threads.proofs.lead.Lead.pop.Goals as goal

pub pop_as-requires-clause-rule : goal.pop_as-requires-clause-rule
pop_as-requires-clause-rule g c = (gets g.T.Task.ready g.T.Task.leaves _ _ c.requires.0 c.requires.1.1, λ items views h at. tt)
