use Rattle.opening_rows.proofs.ReadOn.{take_bad, take_some}
use Rattle.opening_rows.proofs.reading.take_next.Goals as goal

pub returns-in_err-next-clause-taken : goal.returns-in_err-next-clause-taken
returns-in_err-next-clause-taken g c = take_bad c.whole_laws.ensures.bad _ _ _ _ c.args.member c.args.head.now _ _ _ _ _ c.in_err-next.field-0.0 c.from_residual.result c.from_residual.ensures.1 c.in_err-next.ensures.next

pub returns-in_ok-take-in-Some-clause-taken : goal.returns-in_ok-take-in-Some-clause-taken
returns-in_ok-take-in-Some-clause-taken g c =
    take_some c.whole_laws.ensures.goes _ _ _ _ c.args.member c.args.head.now _ _ _ _ _ c.in_ok-next.next c.in-Some.it c.in_ok-next.ensures.next c.in-Some.is c.in_ok-take-in-Some.ensures
