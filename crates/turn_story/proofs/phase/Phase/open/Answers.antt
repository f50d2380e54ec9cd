use Rattle.std.proofs.Common.{rules, ◌≡◌, ◌≤◌, length, vec_capacity, sym, ap, ◌∙◌, subst, arith}
use lib.ListN.{length-map}
use Rattle.turn_gate.specs.Seated.{first_seats}
use Rattle.turn_gate.proofs.Seating.{length-first_seats}
use Rattle.turn_story.specs.declared.step.Step.{Step}
use Rattle.turn_story.proofs.Rows.{HasParts, has_own, firsts_at}
use Rattle.turn_story.proofs.phase.Phase.open.Goals as goal

pub put_together-desks-requires-clause-count : goal.put_together-desks-requires-clause-count
put_together-desks-requires-clause-count g c =
    let M = g.M.Stepping in
    let told = c.new-told.result in
    let n = length c.as_slice.result.now in
    ap length c.in-Ok-new.ensures.seats
    ∙ (length-first_seats (λ (x : Step g.row.M.Denot g.row.M-Part.Denot). M.caller x.event) told.start told.history.items c.in-Ok-new.turn.id 1 n ∙ ap length c.as_slice.ensures.value)

pub put_together-desks-requires-clause-room : goal.put_together-desks-requires-clause-room
put_together-desks-requires-clause-room g c =
    let M = g.M.Stepping in
    let told = c.new-told.result in
    let n = length c.as_slice.result.now in
    let count : length c.in-Ok-new.seats.items ≡ length c.args.parts.items = ap length c.in-Ok-new.ensures.seats
    ∙ (length-first_seats (λ (x : Step g.row.M.Denot g.row.M-Part.Denot). M.caller x.event) told.start told.history.items c.in-Ok-new.turn.id 1 n ∙ ap length c.as_slice.ensures.value) in
    let asked : c.len.result ≡ length c.args.parts.items = search rules in
    let room : c.len.result ≤ vec_capacity c.in-Ok.desks = c.in-Ok.ensures.capacity in
    (c.in-Ok.ensures.items, omega arith)

pub returns-in-Ok-new-clause-desks : goal.returns-in-Ok-new-clause-desks
returns-in-Ok-new-clause-desks g c =
    let M = g.M.Stepping in
    let caller = λ (x : Step g.row.M.Denot g.row.M-Part.Denot). M.caller x.event in
    let told = c.new-told.result in
    let n = length c.as_slice.result.now in
    let z = c.in-Ok-new.turn.id in
    let start = c.in-Ok-new.turn.start in
    let ds = c.put_together-desks.result.items in
    let began = sym c.in-Ok-new.ensures.turn.1 in
    let seats = c.put_together-desks.ensures.seats ∙ (c.in-Ok-new.ensures.seats ∙ (λ i. first_seats caller z (began i) (c.new-told.ensures.history i) n)) in
    let parts = c.put_together-desks.ensures.parts ∙ (sym (ap (λ v. v.items) c.new-told.ensures.start.1) ∙ ap (λ s. s.parts.value.items) began) in (
      sym (length-map ds (λ d. d.part)) ∙ ap length c.put_together-desks.ensures.parts,
      firsts_at M.caller z start ds _ _ 1 n seats (subst (λ l. HasParts l ds (λ d. d.part) 1) parts (has_own ds (λ d. d.part))),
    )
