use Rattle.std.proofs.Common.{rules, ap, ◌∙◌}
use Rattle.turn_gate.specs.Told.{Good, ended_of}
use Rattle.turn_gate.proofs.Moves.{looks}
use Rattle.turn_gate.proofs.Takes.{taken}
use Rattle.turn_gate.proofs.steps.wait_for.Goals as goal

pub load-served-requires : goal.load-served-requires
load-served-requires g c =
    let M = g.M.Machine in
    (search rules, search rules, looks (Good M.event_of M.start M.story M.sound) ended_of (λ x. M.caller (M.event_of x)) _ _ _ _ c.loop.place.me _ _ (ap (λ m. m.0) (c.loop.invariant.1 ∙ c.requires.waits.0)))

pub returns-then-served-ticket-clause-has : goal.returns-then-served-ticket-clause-has
returns-then-served-ticket-clause-has g c =
    let M = g.M.Machine in
    let was = c.loop.invariant.1 in
    let t = c.load-served.ensures.2.1 (search rules) in
    taken M.event_of M.start M.story M.sound (λ x. M.caller (M.event_of x)) c.args.place.now.me c.loop.place.me c.load-served.new.seat.me t.0 t.1 t.2 was (ap (λ m. m.1) (was ∙ c.requires.waits.0)) t.3 t.4 t.5
