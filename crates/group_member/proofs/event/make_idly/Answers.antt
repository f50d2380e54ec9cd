use Rattle.group_member.proofs.Causes.{by_begin}
use Rattle.group_member.proofs.event.make_idly.Goals as goal

pub returns-then-has_begun-clause-unlawful : goal.returns-then-has_begun-clause-unlawful
returns-then-has_begun-clause-unlawful g c = λ so. by_begin _ _ _ _ c.in_ok-stepped.stepped _ c.in_ok-stepped.ensures.makes (c.has_begun.ensures.begun c.if-has_begun.true)
