use Rattle.turn_gate.proofs.Takes.{entered}
use Rattle.turn_gate.proofs.steps.enter.Goals as goal

pub returns-clause-value : goal.returns-clause-value
returns-clause-value g c =
    let M = g.M.Machine in
    entered M.event_of M.start M.story M.sound (λ x. M.caller (M.event_of x)) c.args.place.now.me.0.seats c.draw-ticket.new.place.me.0.seats c.wait_for.new.place.me c.take_out.new.place.me c.take_out.result c.draw-ticket.ensures.same.1 c.wait_for.ensures.has c.take_out.ensures.value
    c.take_out.ensures.same.1
