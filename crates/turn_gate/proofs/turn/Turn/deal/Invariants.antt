use Rattle.std.proofs.Common.{◌≡◌, ◌+◌, ◌-◌, ◌≤◌, [], vec_capacity}
use Rattle.turn_gate.specs.Known.{newcomers}
use Rattle.turn_gate.specs.Ruled.{sits}
use Rattle.turn_gate.specs.Seated.{sats}
use Rattle.turn_gate.proofs.turn.Turn.deal.Given as goal

abbrev pub invariant-loop : goal.invariant-loop
invariant-loop g l =
    let M = g.M.Machine in
    let caller = λ (e : g.row.M-Entry.Denot). M.caller (M.event_of e) in
    let b = M.start l.fn.about.value in
    let log = M.story l.fn.about.value in
    (1 ≤ l.counter) × (l.counter ≤ l.count) × (l.place.table_id ≡ l.fn.table.table_id) × (l.place.me ≡ (sits (newcomers caller b log l.counter (l.count + 1 - l.counter)), []))
    × (l.row.items ≡ sats l.fn.table.table_id (newcomers caller b log 1 (l.counter - 1))) × (l.count ≤ vec_capacity l.row)
