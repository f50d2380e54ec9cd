use Rattle.standing_threads.proofs.Keeping.{sends, sends_free}
use Rattle.standing_threads.proofs.lead.Lead.send.Goals as goal

pub push_as-sent-requires-clause-rule : goal.push_as-sent-requires-clause-rule
push_as-sent-requires-clause-rule g c = (sends g.T.Task.ready g.T.Task.leaves _ _ _ _ c.requires.home.1 c.requires.ready, sends_free g.T.Task.ready g.T.Task.leaves _ _ c.requires.home.1)
