use Rattle.std.proofs.Common.{arith}
use Rattle.group_member.proofs.Causes.{by_own, by_rebuild, by_restart}
use Rattle.group_member.proofs.event.make.Goals as goal

pub returns-in_err-sent-clause-unlawful : goal.returns-in_err-sent-clause-unlawful
returns-in_err-sent-clause-unlawful g c = λ so. by_restart _ _ _ _ (c.in_err-sent.ensures.unlawful (grind (arith, so, c.from_residual.ensures)))

pub returns-in_err-sent-2-clause-unlawful : goal.returns-in_err-sent-2-clause-unlawful
returns-in_err-sent-2-clause-unlawful g c = λ so. by_rebuild _ _ _ _ (c.in_err-sent-2.ensures.unlawful (grind (arith, so, c.from_residual-in_err-sent-2.ensures)))

pub returns-in_err-sent-3-clause-unlawful : goal.returns-in_err-sent-3-clause-unlawful
returns-in_err-sent-3-clause-unlawful g c = λ so. by_own _ _ _ _ (c.in_err-sent-3.ensures.unlawful (grind (arith, so, c.from_residual-in_err-sent-3.ensures)))
