use Rattle.std.proofs.Common.{◌≡◌, ap, subst, IfOk}
use Rattle.turn_gate.specs.Seated.{first_seats}
use Rattle.turn_gate.proofs.turn.Turn.seated.Goals as goal

pub returns-in-Ok-clause-seats : goal.returns-in-Ok-clause-seats
returns-in-Ok-clause-seats g c =
    let M = g.M.Machine in
    let caller = λ (e : g.row.M-Entry.Denot). M.caller (M.event_of e) in
    subst (λ (m : g.row.M.Denot). IfOk c.over_slot.result (λ r. r.1.items ≡ first_seats caller r.0.id (M.start m) (M.story m) c.args.count)) (ap (λ k. k.machine) c.in-Ok.ensures.ok) c.over_slot.ensures.seats
