use Rattle.std.proofs.Common.{rules, [], ◌∷◌, ◌++◌, ap, ◌∙◌, subst}
use Rattle.turn_gate.specs.Told.{Good, ended_of}
use Rattle.turn_gate.specs.Ruled.{both}
use Rattle.turn_gate.specs.Seated.{AreOf}
use Rattle.turn_gate.proofs.Moves.{joins}
use Rattle.turn_gate.proofs.Sums.{append_assoc}
use Rattle.turn_gate.proofs.Seating.{are_of_last}
use Rattle.turn_gate.proofs.turn.Turn.gather.Goals as goal

pub loop-seat-init : goal.loop-seat-init
loop-seat-init g c =
    let s = c.in-Some.last in
    let z = c.args.table.now.table_id in
    let items = c.in-Some.ensures.items in
    let of = are_of_last z c.pop.new.self.items s (subst (AreOf z) items c.requires.seats.1) in
    let made = c.into_place-place.ensures in
    (s ∷ [], items, made.0, made.1 ∙ of.1, of.0)

pub join_seat-requires : goal.join_seat-requires
join_seat-requires g c =
    let M = g.M.Machine in
    let i = c.loop-seat.invariant in
    let s = c.in-Some-pop.seat in
    let z = c.args.table.now.table_id in
    let of = are_of_last z c.pop-in-loop-seat.new.self.items s (subst (AreOf z) c.in-Some-pop.ensures.items i.4) in
    let made = c.into_place-next.ensures in
    (made.1 ∙ of.1, i.3, ap (λ m. m.1) i.2, search rules, joins (Good M.event_of M.start M.story M.sound) ended_of (λ (e : g.row.M-Entry.Denot). M.caller (M.event_of e)) _ _ _ _ _ _ _ _ (ap (λ m. m.0) made.0) (ap (λ m. m.0) i.2))

pub loop-seat-preserved : goal.loop-seat-preserved
loop-seat-preserved g c =
    let i = c.loop-seat.invariant in
    let s = c.in-Some-pop.seat in
    let z = c.args.table.now.table_id in
    let of = are_of_last z c.pop-in-loop-seat.new.self.items s (subst (AreOf z) c.in-Some-pop.ensures.items i.4) in
    let made = c.into_place-next.ensures in (
      s ∷ i.0,
      i.1 ∙ (ap (λ l. l ++ i.0) c.in-Some-pop.ensures.items ∙ append_assoc c.pop-in-loop-seat.new.self.items (s ∷ []) i.0),
      c.join_seat.ensures.2 ∙ (λ j. (both (made.0 j).0 (i.2 j).0, (made.0 j).1)),
      c.join_seat.ensures.0 ∙ (made.1 ∙ of.1),
      of.0,
    )
