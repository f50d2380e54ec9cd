use Rattle.standing_threads.proofs.Keeping.{puts, puts_free}
use Rattle.standing_threads.proofs.post.Post.put.Goals as goal

pub push_as-put-requires-clause-rule : goal.push_as-put-requires-clause-rule
push_as-put-requires-clause-rule g c = (puts g.T.Task.ready g.T.Task.leaves _ _ _ c.requires.0 _ c.requires.1.1 c.requires.2, puts_free g.T.Task.ready g.T.Task.leaves _ _ c.requires.0 c.requires.1.1)
