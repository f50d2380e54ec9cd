use Rattle.std.proofs.Common.{◌∙◌, ◌+◌}
use Rattle.script_fates.proofs.Keeping.{answered_number, answered_commit}
use Rattle.script_fates.proofs.fates.Fates.answer.Goals as goal

pub invariant_of-self : goal.invariant_of-self
invariant_of-self c = record {
  unfated = λ i h. rw c.answer.ensures (answered_number c.self.inside.history.entries c.args.number (i + 1) ∙ c.self.invariant.unfated i h);
  fated = λ i h. rw c.answer.ensures (answered_commit c.self.inside.history.entries c.args.number (i + 1) ∙ c.self.invariant.fated i h);
}
