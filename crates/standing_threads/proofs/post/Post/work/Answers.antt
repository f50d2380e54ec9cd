use Rattle.std.proofs.Common.{subst}
use Rattle.standing_threads.specs.declared.message.Message.TheVariants as said
use Rattle.standing_threads.proofs.post.Post.work.Goals as goal

pub put-requires : goal.put-requires
put-requires g c = (said.ToDo c.args.item, c.requires.0, λ x h. subst (λ z. g.T.Task.leaves z c.work.new.self) h.0 c.work.ensures)
