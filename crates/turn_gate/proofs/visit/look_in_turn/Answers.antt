use Rattle.std.proofs.Common.{◌≡◌, ℕ, List, [], ◌∷◌, Some, refl, sym, ap, ◌∙◌, subst}
use Rattle.turn_gate.specs.Known.{sees, hears}
use Rattle.turn_gate.specs.Told.{Good}
use Rattle.turn_gate.proofs.Reaches.{not_yet, knows_one, follows_same, reaches}
use Rattle.turn_gate.proofs.visit.look_in_turn.Goals as goal

pub look-found-requires : goal.look-found-requires
look-found-requires g c lasts =
    let M = g.M.Machine in
    let caller = λ (e : g.row.M-Entry.Denot). M.caller (M.event_of e) in
    let idle = c.requires.idle in
    let kept = c.enter-kept.result in
    let one = knows_one caller (Good M.event_of M.start M.story M.sound (Some kept)) kept.ended c.args.place.now.me.0.seats c.enter-kept.new.place.me.0.seats idle.0 (ap (λ m. m.0.seats) idle.1) c.enter-kept.ensures.value in
    let before = idle.2 (not_yet idle.0.ended kept.ended (λ e. (one.2.over e).0) lasts) in
    let part = reaches caller M.parted g.met.M.Machine.leaves one.0 kept.ended idle.0 c.args.part.now one.2 before in
    (one.1.3 lasts, (idle.0.caller, subst (λ (q : g.row.M-Start.Denot × List g.row.M-Entry.Denot). M.parted idle.0.caller c.args.part.now q.0 q.1) (λ i. (sym one.1.0 i, sym one.1.1 i)) part))

pub leave-requires-clause-value : goal.leave-requires-clause-value
leave-requires-clause-value g c =
    let M = g.M.Machine in
    let caller = λ (e : g.row.M-Entry.Denot). M.caller (M.event_of e) in
    let idle = c.requires.idle in
    let kept = c.enter-kept.result in
    let one = knows_one caller (Good M.event_of M.start M.story M.sound (Some kept)) kept.ended c.args.place.now.me.0.seats c.enter-kept.new.place.me.0.seats idle.0 (ap (λ m. m.0.seats) idle.1) c.enter-kept.ensures.value in
    (sees one.0 kept.ended idle.0, one.3, one.1, λ e. e)

pub returns-clause-done : goal.returns-clause-done
returns-clause-done g c k is =
    let M = g.M.Machine in
    let caller = λ (e : g.row.M-Entry.Denot). M.caller (M.event_of e) in
    let idle = c.requires.idle in
    let kept = c.enter-kept.result in
    let one = knows_one caller (Good M.event_of M.start M.story M.sound (Some kept)) kept.ended c.args.place.now.me.0.seats c.enter-kept.new.place.me.0.seats k (ap (λ m. m.0.seats) is) c.enter-kept.ensures.value in
    let same : idle.0 ≡ k = ap (λ l. Rattle.std.proofs.Common.get_or l 0 idle.0) (sym (ap (λ m. m.0.seats) idle.1) ∙ ap (λ m. m.0.seats) is) in
    let part = λ (lasts : kept.ended ≡ Rattle.std.proofs.Common.false). subst (λ (q : _). q.ended ≡ Rattle.std.proofs.Common.false → M.parted q.caller c.args.part.now q.start q.seen) same idle.2 (not_yet k.ended kept.ended (λ e. (one.2.over e).0) lasts) in (
      hears kept.ended (sees one.0 kept.ended k),
      c.leave.ensures.idle (sees one.0 kept.ended k) one.3,
      follows_same caller one.0 kept.ended kept.ended k one.2 (λ e. e),
      refl,
      c.look-found.ensures.over,
      λ lasts. (
        subst (λ (q : g.row.M-Start.Denot × List g.row.M-Entry.Denot). M.answers q.0 q.1 c.args.part.now c.args.from c.look-found.result) (λ i. (one.1.0 i, one.1.1 i)) (c.look-found.ensures.answer lasts),
        reaches caller M.parted g.met.M.Machine.leaves one.0 kept.ended k c.args.part.now one.2 (part lasts),
      ),
    )
