use Rattle.std.proofs.Common.{◌≡◌, ℕ, ◌≤◌, List, length, map, vec_capacity, sym, ap, ◌∙◌, subst, arith}
use Rattle.std.specs.Prelude.{Some}
use lib.ListN.{length-map}
use Rattle.turn_gate.specs.Seated.{AreOf, HasAll, PartsReach, NoneEnded}
use Rattle.turn_story.specs.Chains.{part_of, Leads}
use Rattle.turn_story.specs.Histories.{number_of, parts_after, IsTold}
use Rattle.turn_story.specs.Desks.{AllRan}
use Rattle.turn_story.proofs.Rows.{are_of, all_ran}
use Rattle.turn_story.proofs.Closing.{closes}
use Rattle.turn_story.proofs.phase.Phase.close.Goals as goal

pub take_apart-requires-clause-room : goal.take_apart-requires-clause-room
take_apart-requires-clause-room g c =
    let same : length c.args.desks.items ≡ c.self.inside.turn.seats = c.requires.count ∙ sym (ap (λ t. t.seats) c.self.view_is) in
    let seats : c.self.inside.turn.seats ≤ vec_capacity c.self.inside.seats = c.self.invariant.2 in
    let parts : c.self.inside.turn.seats ≤ vec_capacity c.self.inside.parts = c.self.invariant.3 in
    (omega arith, omega arith)

pub close-told-requires : goal.close-told-requires
close-told-requires g c =
    let M = g.M.Stepping in
    let ds = c.args.desks.items in
    let row = c.take_apart.ensures.seats in
    let is = c.self.view_is in (
      ap length row ∙ (length-map ds _ ∙ (c.requires.count ∙ sym (ap (λ t. t.seats) is))),
      subst (AreOf c.self.inside.turn.id) (sym row) (subst (λ t. AreOf t.id (map (λ d. d.seat) ds)) (sym is) (are_of M.caller c.args.self.id c.args.self.start ds _ _ 1 c.requires.at)),
    )

pub returns-clause-leads : goal.returns-clause-leads
returns-clause-leads g c lasts =
    let M = g.M.Stepping in
    let ds = c.args.desks.items in
    let row = c.take_apart.ensures.seats in
    let is = c.self.view_is in
    let start = c.args.self.start in
    let log = c.close-told.result.0.history.items in
    let began = c.close-told.ensures.start ∙ ap (λ t. t.start) is in
    let counted = c.requires.count ∙ sym (subst (λ t. length t.start.parts.value.items ≡ t.seats) is c.self.invariant.4) in
    let reach = subst (PartsReach {P = g.row.M-Part.Denot} (λ by p b l. part_of (parts_after M.caller b.parts.value.items l) by ≡ Some p) log) row c.close-told.ensures.parts in
    let told = subst (λ b. IsTold M.caller M.steps b.value.value b.parts.value.items log c.close-told.result.0.value) began (c.close-told.ensures.sound lasts) in
    let leads = closes M.caller M.steps c.args.self.id start ds _ _ log c.close-told.result.0.value counted c.requires.at (subst NoneEnded row (c.close-told.ensures.lasts lasts)) reach told in
    subst (λ (t : List ℕ × (g.row.M.Denot × List g.row.M-Part.Denot)). Leads M.caller M.steps start.value.value start.parts.value.items t.0 t.1.0 t.1.1)
    (λ i. (sym c.close-told.ensures.stands i, (sym c.into_value.ensures.value i, sym c.take_apart.ensures.parts i))) leads

pub returns-clause-ran : goal.returns-clause-ran
returns-clause-ran g c =
    let M = g.M.Stepping in
    let ds = c.args.desks.items in
    let log = c.close-told.result.0.history.items in
    let has = subst (HasAll (λ x. M.caller (number_of x)) log) c.take_apart.ensures.seats c.close-told.ensures.own in
    subst (AllRan M.caller ds _) (sym c.close-told.ensures.stands) (all_ran M.caller ds _ log has)

pub returns-clause-refused : goal.returns-clause-refused
returns-clause-refused g c none = c.close-told.ensures.refused (subst NoneEnded (sym c.take_apart.ensures.seats) none)

pub returns-clause-later : goal.returns-clause-later
returns-clause-later g c =
    let M = g.M.Stepping in
    subst (λ b. M.tally b.value.value ≤ M.tally c.into_value.result) (c.close-told.ensures.start ∙ ap (λ t. t.start) c.self.view_is) c.into_value.ensures.later
