use Rattle.std.proofs.Common.{arith, ◌≡◌, ℕ, ◌^◌, ◌≤◌, List, [], ◌∷◌, ◌++◌, length, Option, Some, refl, sym, ap, ◌∙◌, subst}
use lib.ListN.{length-map}
use Rattle.atomic_table.specs.Table.{opening}
use Rattle.turn_gate.specs.declared.kept.Kept.{Kept}
use Rattle.turn_gate.specs.Told.{Good, ended_of}
use Rattle.turn_gate.specs.Known.{newcomers}
use Rattle.turn_gate.specs.Ruled.{Ruled, sits}
use Rattle.turn_gate.proofs.Moves.{starts}
use Rattle.turn_gate.proofs.turn.Turn.over_slot.Goals as goal

pub new-requires : goal.new-requires
new-requires g c =
    let M = g.M.Machine in
    let caller = λ (e : g.row.M-Entry.Denot). M.caller (M.event_of e) in
    let n = c.args.count in
    let k : Kept g.row.M.Denot = c.args.kept in
    let log : List g.row.M-Entry.Denot = M.story k.machine in
    let b : g.row.M-Start.Denot = M.start k.machine in
    let items : c.push_reserved.new.self.items ≡ Some k ∷ [] = c.push_reserved.ensures.items ∙ ap (λ l. l ++ Some k ∷ []) c.requires.room.2 in
    let few : n ≤ 2 ^ 32 = (let less = c.requires.count.1 in omega arith) in
    let same : c.of.result.value ≡ k.machine = c.of.ensures ∙ ap (λ x. x.machine) c.get.ensures in
    let len : c.count.result ≡ length log = c.count.ensures ∙ (ap length c.requires.stands.1 ∙ length-map log M.event_of) in
    subst
    (λ (q : ℕ × (List (Option (Kept g.row.M.Denot)) × g.row.M.Denot)).
    Ruled (Good M.event_of M.start M.story M.sound) ended_of caller n (M.start q.1.1) (opening (0 ∷ 0 ∷ q.0 ∷ []) q.1.0 (sits (newcomers caller (M.start q.1.1) (M.story q.1.1) 1 n))))
    (λ i. (sym len i, (sym items i, sym same i)))
    (starts (Good M.event_of M.start M.story M.sound) ended_of caller n b log (Some k) (refl, refl, c.requires.stands.1, λ _. c.requires.stands.0) c.requires.stands.2 few)

pub given_back-requires : goal.given_back-requires
given_back-requires g c =
    let k : Kept g.row.M.Denot = c.args.kept in
    (k, c.in-Err.ensures.err ∙ (c.push_reserved.ensures.items ∙ ap (λ l. l ++ Some k ∷ []) c.requires.room.2))
