use Rattle.std.proofs.Common.{rules, ap}
use Rattle.turn_gate.specs.Told.{Good, ended_of}
use Rattle.turn_gate.proofs.Moves.{draws}
use Rattle.turn_gate.proofs.steps.draw.Goals as goal

pub fetch_add-requires : goal.fetch_add-requires
fetch_add-requires g c =
    let M = g.M.Machine in
    (search rules, search rules, draws (Good M.event_of M.start M.story M.sound) ended_of (λ x. M.caller (M.event_of x)) _ _ _ _ c.args.place.now.me _ (ap (λ m. m.0) c.requires.idle.0) c.requires.idle.1)
