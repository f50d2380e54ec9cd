use Rattle.std.proofs.Common.{◌≡◌, ℕ, ◌≤◌, List, sym, subst, ◌∙◌}
use Rattle.std.specs.Prelude.{◌↔◌}
use Rattle.log_heads.specs.declared.taken.Taken.{Taken}
use Rattle.log_heads.specs.declared.taken.Taken.TheVariants as taken
use Rattle.log_heads.specs.Heads.{HeadsState, taken_of}
use Rattle.log_heads.specs.Logs.{GoesOn, AreRead, work_left}
use Rattle.log_heads.proofs.heads.Heads.take.Goals as goal

pub returns-clause-wants : goal.returns-clause-wants
returns-clause-wants c = λ member at count e.
    subst (λ (s : HeadsState). taken_of s ≡ taken.Wants member at count) (sym c.take_next.ensures.after) (c.heads_laws.ensures.again c.args.self.now member at count (sym c.take_next.ensures.taken ∙ e))

pub returns-clause-goes : goal.returns-clause-goes
returns-clause-goes c = λ logs are.
    subst (λ (t : Taken). GoesOn logs c.args.self.now.heads t c.take_next.new.self.heads) (sym c.take_next.ensures.taken)
    (subst (λ (s : HeadsState). GoesOn logs c.args.self.now.heads (taken_of c.args.self.now) s.heads) (sym c.take_next.ensures.after) (c.heads_laws.ensures.taken logs c.args.self.now are))

pub returns-clause-end : goal.returns-clause-end
returns-clause-end c = λ logs are. subst (λ (t : Taken). (t ≡ taken.End) ↔ AreRead c.args.self.now.heads) (sym c.take_next.ensures.taken) (c.heads_laws.ensures.end logs c.args.self.now are)

pub returns-clause-no_more : goal.returns-clause-no_more
returns-clause-no_more c = subst (λ (s : HeadsState). work_left s.heads ≤ work_left c.args.self.now.heads) (sym c.take_next.ensures.after) (c.heads_laws.ensures.no_more c.args.self.now)
