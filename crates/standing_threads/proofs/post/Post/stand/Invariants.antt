use Rattle.standing_threads.specs.Ends.{HasNone}
use Rattle.standing_threads.proofs.post.Post.stand.Given as goal

abbrev pub invariant-loop : goal.invariant-loop
invariant-loop g l = HasNone l.self
