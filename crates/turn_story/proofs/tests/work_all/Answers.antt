use denote.Param.Send.{sendable}
use Rattle.std.proofs.Common.{rules, ◌≡◌, ◌+◌, ◌%◌, ◌<◌, length, sym, subst, arith}
use Rattle.std.proofs.Crossing.{crosses}
use Rattle.atomic_table.proofs.shared.Seat.TheSendSync.{the_send as place_send}
use Rattle.past_items.proofs.past.Past.TheSendSync.{the_send as history_send}
use Rattle.turn_story.specs.Desks.{IsAt}
use Rattle.turn_story.proofs.Rows.{moved, at_place, from_places}
use Rattle.turn_story.proofs.tests.work_all.Goals as goal

pub for_each_mut-requires-send-T : goal.for_each_mut-requires-send-T
unfolding types.Keyed.entry denote.Memory.part_of
for_each_mut-requires-send-T g c κs within = search (sendable, crosses, place_send, history_send) depth 400 fits 200000

pub for_each_mut-requires-clause-accepts : goal.for_each_mut-requires-clause-accepts
for_each_mut-requires-clause-accepts g c κs within i p less is =
    let turn = c.args.turn.now in
    let few : length c.args.desks.now < 64 = c.requires.range.1 in
    let at = at_place (λ event. event % 64) turn.id turn.start c.args.desks.now _ _ 1 i p.now c.requires.at less in
    let here = moved _ _ (sym is) (λ d. (d.seat.knows.caller ≡ i + 1) × IsAt (λ event. event % 64) turn.id turn.start d.seat d.part) at in
    (omega arith, c.requires.range.2, here.0, here.1)

pub returns-clause-at : goal.returns-clause-at
returns-clause-at g c =
    let turn = c.args.turn.now in
    let same : length c.for_each_mut.new.s ≡ length c.args.desks.now = search rules in
    from_places (λ event. event % 64) turn.id turn.start c.for_each_mut.new.s _ _ 1 (λ i d less.
    let h = (c.for_each_mut.ensures i d (subst (λ n. i < n) same less)).1 in
    moved _ _ h.left (λ e. (e.seat.knows.caller ≡ i + 1) × IsAt (λ event. event % 64) turn.id turn.start e.seat e.part) h.call)
