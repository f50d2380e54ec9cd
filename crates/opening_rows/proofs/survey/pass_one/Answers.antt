use Rattle.std.proofs.Common.{ap}
use Rattle.opening_rows.proofs.Told.{err_of}
use Rattle.opening_rows.proofs.Steps.{step_some, step_falls, step_bad}
use Rattle.opening_rows.proofs.survey.pass_one.Goals as goal

pub returns-in_err-next-clause-passed : goal.returns-in_err-next-clause-passed
returns-in_err-next-clause-passed g c =
    step_bad c.whole_laws.ensures.bad _ _ _ _ c.args.member c.args.survey.now.head _ _ _ _ _ c.in_err-next.field-0.0 c.from_residual.result c.from_residual.ensures.1 c.in_err-next.ensures.next

pub returns-in_err-pass-in-Some-clause-passed : goal.returns-in_err-pass-in-Some-clause-passed
returns-in_err-pass-in-Some-clause-passed g c =
    step_falls _ _ _ _ c.args.member c.at-at.result c.args.survey.now.head _ _ _ _ _ c.in_ok-next.next c.in-Some.it c.in_err-pass-in-Some.field-0.0 c.from_residual-in_err-pass-in-Some.result
    c.from_residual-in_err-pass-in-Some.ensures.1 c.in_ok-next.ensures.next c.in-Some.is c.at-at.ensures (λ m i e. c.in_err-pass-in-Some.ensures.damaged m i (ap err_of e)) (λ e. c.in_err-pass-in-Some.ensures.never (ap err_of e))

pub returns-in_ok-pass-in-Some-clause-passed : goal.returns-in_ok-pass-in-Some-clause-passed
returns-in_ok-pass-in-Some-clause-passed g c =
    step_some c.whole_laws.ensures.goes _ _ _ _ c.args.member c.args.survey.now.head _ _ _ _ _ _ _ _ c.in_ok-next.next c.in-Some.it c.in_ok-next.ensures.next c.in-Some.is c.in_ok-next.ensures.past
    c.in_ok-pass-in-Some.ensures.counted c.in_ok-pass-in-Some.ensures.noted c.in_ok-pass-in-Some.ensures.head
