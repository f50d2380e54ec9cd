use Rattle.standing_threads.proofs.Keeping.{takes}
use Rattle.standing_threads.proofs.post.Post.take.Goals as goal

pub pop_as-requires-clause-rule : goal.pop_as-requires-clause-rule
pop_as-requires-clause-rule g c = (takes g.T.Task.ready g.T.Task.leaves _ _ c.requires.1, λ items views h at. tt)
