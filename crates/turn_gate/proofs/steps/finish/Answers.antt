use Rattle.std.proofs.Common.{rules, true≢false, sym, ap, ◌∙◌}
use Rattle.turn_gate.specs.Known.{adds}
use Rattle.turn_gate.proofs.Takes.{has_slot}
use Rattle.turn_gate.proofs.steps.finish.Goals as goal

pub raise-requires-clause-value : goal.raise-requires-clause-value
raise-requires-clause-value g c =
    let v = c.requires.value in
    (v.0, v.1, c.args.kept, c.put_back.ensures.has, ap (λ u. u.seats) c.put_back.ensures.same.1 ∙ v.2, v.3, v.4, v.5, search rules)

pub pass-requires-clause-value : goal.pass-requires-clause-value
pass-requires-clause-value g c =
    let v = c.requires.value in
    let seats = ap (λ u. u.seats) c.put_back.ensures.same.1 ∙ v.2 in
    let after = c.raise.ensures.seen v.0 v.1 c.args.kept c.put_back.ensures.has seats v.3 v.5 in
    (adds v.1 v.0, c.args.kept, has_slot c.raise.new.place.me _ _ _ after, ap (λ m. m.0.seats) after, v.5, λ o. absurd (true≢false (sym o ∙ v.4)))

pub returns-clause-idle : goal.returns-clause-idle
returns-clause-idle g c k e seats whose good =
    let after = c.raise.ensures.seen k e c.args.kept c.put_back.ensures.has (ap (λ u. u.seats) c.put_back.ensures.same.1 ∙ seats) whose good in
    c.pass.ensures.idle (adds e k) c.args.kept (has_slot c.raise.new.place.me _ _ _ after) (ap (λ m. m.0.seats) after)
