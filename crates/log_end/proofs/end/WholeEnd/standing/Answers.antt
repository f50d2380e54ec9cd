use Rattle.std.proofs.Common.{◌≡◌, ℕ, List, sym, subst, ◌∙◌}
use Rattle.log_head.specs.declared.standing.Standing.{Standing}
use Rattle.log_head.specs.Heads.{IsOf}
use Rattle.log_end.specs.Ends.{EndState, end_of, Tells}
use Rattle.log_end.proofs.Passing.{tells, not_ready}
use Rattle.log_end.proofs.end.WholeEnd.standing.Goals as goal

pub returns-clause-never : goal.returns-clause-never
returns-clause-never c = λ e. not_ready c.self.inside.block c.self.inside.head c.self.invariant (sym c.standing.ensures ∙ e)

pub returns-clause-tells : goal.returns-clause-tells
returns-clause-tells c =
    let s : EndState = record { block = c.self.inside.block; head = c.self.inside.head } in
    subst (λ (t : EndState). (log : List ℕ) → IsOf log t.head → Tells c.standing.result (end_of log t.head)) c.self.view_is
    (λ log is. subst (λ (r : Standing). Tells r (end_of log c.self.inside.head)) (sym c.standing.ensures)
    (tells c.whole_laws.ensures.ends c.whole_laws.ensures.bad c.head_laws.ensures.ended c.head_laws.ensures.bad s log c.self.invariant is))
