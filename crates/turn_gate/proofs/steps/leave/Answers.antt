use Rattle.std.proofs.Common.{ap, ◌∙◌}
use Rattle.turn_gate.proofs.steps.leave.Goals as goal

pub pass-requires-clause-value : goal.pass-requires-clause-value
pass-requires-clause-value g c =
    let v = c.requires.value in
    (v.0, c.args.kept, c.put_back.ensures.has, ap (λ u. u.seats) c.put_back.ensures.same.1 ∙ v.1, v.2, v.3)

pub returns-clause-idle : goal.returns-clause-idle
returns-clause-idle g c k seats = c.pass.ensures.idle k c.args.kept c.put_back.ensures.has (ap (λ u. u.seats) c.put_back.ensures.same.1 ∙ seats)
