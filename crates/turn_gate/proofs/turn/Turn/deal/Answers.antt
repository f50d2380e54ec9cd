use Rattle.std.proofs.Common.{rules, arith, ◌≡◌, ◌+◌, ◌-◌, ◌<◌, ◌≤◌, [], ◌∷◌, ◌++◌, length, vec_len, vec_capacity, sym, ap, ◌∙◌}
use Rattle.turn_gate.specs.Ruled.{sits}
use Rattle.turn_gate.specs.Told.{Good, ended_of}
use Rattle.turn_gate.proofs.Moves.{splits}
use Rattle.turn_gate.proofs.Seating.{newcomer, sat_one, sats_more, length-first_seats, newcomers_last, split_off}
use Rattle.turn_gate.proofs.turn.Turn.deal.Goals as goal

pub split_seat-next-requires : goal.split_seat-next-requires
split_seat-next-requires g c =
    let M = g.M.Machine in
    let i = c.loop.invariant in
    (search rules, search rules, splits (Good M.event_of M.start M.story M.sound) ended_of (λ (e : g.row.M-Entry.Denot). M.caller (M.event_of e)) _ _ _ _ _ (ap (λ m. m.0) i.3))

pub at-requires : goal.at-requires
at-requires g c =
    let M = g.M.Machine in
    let caller = λ (e : g.row.M-Entry.Denot). M.caller (M.event_of e) in
    let b = M.start c.args.about.now.value in
    let log = M.story c.args.about.now.value in
    let i = c.loop.invariant in
    let off = split_off caller b log c.loop.place.me c.split_seat-next.new.seat.me c.split_seat-next.result.me c.loop.counter c.args.count c.loop-test.true i.3 c.split_seat-next.ensures.2 c.split_seat-next.ensures.4 in
    (sat_one b c.split_seat-next.new.seat (newcomer caller b log c.loop.counter) off.0).0

pub push_reserved-requires : goal.push_reserved-requires
push_reserved-requires g c =
    let M = g.M.Machine in
    let caller = λ (e : g.row.M-Entry.Denot). M.caller (M.event_of e) in
    let i = c.loop.invariant in
    let l = ap length i.4 ∙ length-first_seats caller (M.start c.args.about.now.value) (M.story c.args.about.now.value) c.args.table.now.table_id 1 (c.loop.counter - 1) in
    let len : vec_len c.loop.row ≡ length c.loop.row.items = search rules in
    let less : c.loop.counter < c.args.count = c.loop-test.true in
    let room : c.args.count ≤ vec_capacity c.loop.row = i.5 in
    omega arith

pub loop-preserved : goal.loop-preserved
loop-preserved g c =
    let M = g.M.Machine in
    let caller = λ (e : g.row.M-Entry.Denot). M.caller (M.event_of e) in
    let b = M.start c.args.about.now.value in
    let log = M.story c.args.about.now.value in
    let i = c.loop.invariant in
    let z = c.args.table.now.table_id in
    let off = split_off caller b log c.loop.place.me c.split_seat-next.new.seat.me c.split_seat-next.result.me c.loop.counter c.args.count c.loop-test.true i.3 c.split_seat-next.ensures.2 c.split_seat-next.ensures.4 in
    let sat = (sat_one b c.split_seat-next.new.seat (newcomer caller b log c.loop.counter) off.0).1 in
    let less : c.loop.counter < c.args.count = c.loop-test.true in
    let id : c.split_seat-next.new.seat.table_id ≡ z = c.split_seat-next.ensures.0 ∙ i.2 in (
      omega arith,
      omega arith,
      c.split_seat-next.ensures.3 ∙ i.2,
      off.1,
      c.push_reserved.ensures.items ∙ ((λ j. i.4 j ++ (c.at.ensures ∙ (sat ∙ ap (λ t. record { turn = t; knows = newcomer caller b log c.loop.counter }) id)) j ∷ []) ∙ sym (sats_more caller b log z c.loop.counter (c.loop.counter + 1 - 1) i.0 (omega arith))),
      (let cap : vec_capacity c.push_reserved.new.self ≡ vec_capacity c.loop.row = c.push_reserved.ensures.capacity in let room : c.args.count ≤ vec_capacity c.loop.row = i.5 in omega arith),
    )

pub push_reserved-requires-2 : goal.push_reserved-requires-2
push_reserved-requires-2 g c =
    let M = g.M.Machine in
    let caller = λ (e : g.row.M-Entry.Denot). M.caller (M.event_of e) in
    let i = c.loop.invariant in
    let l = ap length i.4 ∙ length-first_seats caller (M.start c.args.about.now.value) (M.story c.args.about.now.value) c.args.table.now.table_id 1 (c.loop.counter - 1) in
    let len : vec_len c.loop.row ≡ length c.loop.row.items = search rules in
    let most : c.loop.counter ≤ c.args.count = i.1 in
    let least : 1 ≤ c.loop.counter = i.0 in
    let room : c.args.count ≤ vec_capacity c.loop.row = i.5 in
    omega arith

pub at-requires-2 : goal.at-requires-2
at-requires-2 g c =
    let M = g.M.Machine in
    let caller = λ (e : g.row.M-Entry.Denot). M.caller (M.event_of e) in
    let b = M.start c.args.about.now.value in
    let log = M.story c.args.about.now.value in
    let i = c.loop.invariant in
    let more : c.args.count ≤ c.loop.counter = search rules in
    let most : c.loop.counter ≤ c.args.count = i.1 in
    let all : c.loop.counter ≡ c.args.count = omega arith in
    let me = i.3 ∙ ap (λ o. (sits o, [])) (newcomers_last caller b log c.loop.counter c.args.count all) in
    (sat_one b c.loop.place (newcomer caller b log c.loop.counter) me).0

pub returns : goal.returns
returns g c =
    let M = g.M.Machine in
    let caller = λ (e : g.row.M-Entry.Denot). M.caller (M.event_of e) in
    let b = M.start c.args.about.now.value in
    let log = M.story c.args.about.now.value in
    let i = c.loop.invariant in
    let z = c.args.table.now.table_id in
    let more : c.args.count ≤ c.loop.counter = search rules in
    let most : c.loop.counter ≤ c.args.count = i.1 in
    let all : c.loop.counter ≡ c.args.count = omega arith in
    let me = i.3 ∙ ap (λ o. (sits o, [])) (newcomers_last caller b log c.loop.counter c.args.count all) in
    let sat = (sat_one b c.loop.place (newcomer caller b log c.loop.counter) me).1 in
    c.push_reserved-2.ensures.items ∙ ((λ j. i.4 j ++ (c.at-2.ensures ∙ (sat ∙ ap (λ t. record { turn = t; knows = newcomer caller b log c.loop.counter }) i.2)) j ∷ []) ∙ sym (sats_more caller b log z c.loop.counter c.args.count i.0 (sym all)))
