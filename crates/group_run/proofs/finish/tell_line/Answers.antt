use Rattle.std.proofs.Common.{List, ℕ, inl, inr, refl, subst, ◌∙◌}
use Rattle.group_run.specs.Ends.{Tells}
use Rattle.group_run.proofs.Copying.{nothing_more}
use Rattle.group_run.proofs.finish.tell_line.Goals as goal

pub returns-in-Ok : goal.returns-in-Ok
returns-in-Ok g c =
    inl (subst (λ (t : List ℕ). Tells c.args.met c.tell.result t (g.K.Sink.taken c.args.sink.now) (g.K.Sink.taken c.tell.new.sink) (g.K.Sink.faults c.args.sink.now) (g.K.Sink.faults c.tell.new.sink)) (c.as_slice.ensures ∙ c.in-Ok.ensures) c.tell.ensures)

pub returns-in-Err : goal.returns-in-Err
returns-in-Err g c = inr (refl, nothing_more (g.K.Sink.taken c.args.sink.now))
