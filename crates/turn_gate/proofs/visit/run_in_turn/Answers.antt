use Rattle.std.proofs.Common.{◌≡◌, ◌⊎◌, ℕ, List, [], ◌∷◌, ◌++◌, length, map, Some, true, false, true≢false, inl, inr, refl, sym, ap, ◌∙◌, subst}
use mathlib.Core.List.{map-append}
use lib.ListN.{length-map}
use Rattle.turn_gate.specs.Known.{sees, adds, hears}
use Rattle.turn_gate.specs.Told.{Good}
use Rattle.turn_gate.proofs.Reaches.{ran_only, ran_then, refused_then, not_yet, knows_one, follows_same, follows_more, has_run, reaches}
use Rattle.turn_gate.proofs.visit.run_in_turn.Goals as goal

pub run-requires : goal.run-requires
run-requires g c lasts =
    let M = g.M.Machine in
    let caller = λ (e : g.row.M-Entry.Denot). M.caller (M.event_of e) in
    let idle = c.requires.idle in
    let kept = c.enter-kept.result in
    let one = knows_one caller (Good M.event_of M.start M.story M.sound (Some kept)) kept.ended c.args.place.now.me.0.seats c.enter-kept.new.place.me.0.seats idle.0 (ap (λ m. m.0.seats) idle.1) c.enter-kept.ensures.value in
    let before = idle.3 (not_yet idle.0.ended kept.ended (λ e. (one.2.over e).0) lasts) in
    let part = reaches caller M.parted g.met.M.Machine.leaves one.0 kept.ended idle.0 c.args.part.now one.2 before in
    (one.1.3 lasts, subst (λ (q : ℕ × (g.row.M-Start.Denot × List g.row.M-Entry.Denot)). M.parted q.0 c.args.part.now q.1.0 q.1.1) (λ i. (sym idle.2 i, (sym one.1.0 i, sym one.1.1 i))) part)

pub finish-requires-clause-value : goal.finish-requires-clause-value
finish-requires-clause-value g c =
    let M = g.M.Machine in
    let caller = λ (e : g.row.M-Entry.Denot). M.caller (M.event_of e) in
    let idle = c.requires.idle in
    let kept = c.enter-kept.result in
    let one = knows_one caller (Good M.event_of M.start M.story M.sound (Some kept)) kept.ended c.args.place.now.me.0.seats c.enter-kept.new.place.me.0.seats idle.0 (ap (λ m. m.0.seats) idle.1) c.enter-kept.ensures.value in
    let added = c.in-Ok.ensures.added in
    let x = added.2.0 in
    let log = one.0 in (
      sees log kept.ended idle.0,
      x,
      one.3,
      ap M.caller added.2.1 ∙ idle.2,
      c.in-Ok.ensures.lasts,
      (
        added.0 ∙ one.1.0,
        added.2.2 ∙ ap (λ l. l ++ x ∷ []) one.1.1,
        added.1 ∙ ((λ i. one.1.2 i ++ sym added.2.1 i ∷ []) ∙ sym (map-append M.event_of log (x ∷ []))),
        λ e. ran_only c.in-Ok.turned _ _ (λ _ h. h.1) c.in-Ok.ensures.ran (sym c.in-Ok.ensures.ended ∙ e),
      ),
    )

pub leave-requires-clause-value : goal.leave-requires-clause-value
leave-requires-clause-value g c =
    let M = g.M.Machine in
    let caller = λ (e : g.row.M-Entry.Denot). M.caller (M.event_of e) in
    let idle = c.requires.idle in
    let kept = c.enter-kept.result in
    let one = knows_one caller (Good M.event_of M.start M.story M.sound (Some kept)) kept.ended c.args.place.now.me.0.seats c.enter-kept.new.place.me.0.seats idle.0 (ap (λ m. m.0.seats) idle.1) c.enter-kept.ensures.value in
    let refused = c.in-Err.ensures.refused in (
      sees one.0 kept.ended idle.0,
      one.3,
      (ap M.start refused.0 ∙ one.1.0, ap M.story refused.0 ∙ one.1.1, refused.1 ∙ one.1.2, λ e. absurd (true≢false (sym refused.3 ∙ e))),
      λ _. refused.3,
    )

pub returns-in-Ok-clause-done : goal.returns-in-Ok-clause-done
returns-in-Ok-clause-done g c k is =
    let M = g.M.Machine in
    let caller = λ (e : g.row.M-Entry.Denot). M.caller (M.event_of e) in
    let idle = c.requires.idle in
    let kept = c.enter-kept.result in
    let one = knows_one caller (Good M.event_of M.start M.story M.sound (Some kept)) kept.ended c.args.place.now.me.0.seats c.enter-kept.new.place.me.0.seats k (ap (λ m. m.0.seats) is) c.enter-kept.ensures.value in
    let same : k.caller ≡ idle.0.caller = ap (λ l. (Rattle.std.proofs.Common.get_or l 0 k).caller) (sym (ap (λ m. m.0.seats) is) ∙ ap (λ m. m.0.seats) idle.1) in
    let whose : M.caller c.args.event ≡ k.caller = idle.2 ∙ sym same in
    let added = c.in-Ok.ensures.added in
    let x = added.2.0 in
    let log = one.0 in
    let lasts = c.in-Ok.ensures.lasts in
    let p = c.run.new.self.ended in
    let begin : M.start c.run.new.self.machine ≡ k.start = added.0 ∙ one.1.0 in
    let told : M.story c.run.new.self.machine ≡ log ++ x ∷ [] = added.2.2 ∙ ap (λ l. l ++ x ∷ []) one.1.1 in
    let count : length kept.journal.items ≡ length log = ap length one.1.2 ∙ length-map log M.event_of in
    let good : Good M.event_of M.start M.story M.sound (Some c.run.new.self) k.start (log ++ x ∷ []) = (begin, told, added.1 ∙ ((λ i. one.1.2 i ++ sym added.2.1 i ∷ []) ∙ sym (map-append M.event_of log (x ∷ []))), λ e. ran_only c.in-Ok.turned _ _ (λ _ h. h.1) c.in-Ok.ensures.ran (sym c.in-Ok.ensures.ended ∙ e)) in
    let over = λ (e : k.ended ≡ true). true≢false (sym (one.2.over e).0 ∙ lasts) in (
      hears p (adds x (sees log kept.ended k)),
      c.finish.ensures.idle (sees log kept.ended k) x one.3 (ap M.caller added.2.1 ∙ whose) good,
      follows_more caller log x kept.ended p k one.2 lasts,
      c.in-Ok.ensures.ended,
      ran_then c.in-Ok.turned _ _ (λ place h. (
        has_run caller M.event_of log x c.args.event place kept.ended p k one.2 added.2.1 (h.0 ∙ count),
        subst (λ (q : ℕ × (g.row.M-Start.Denot × List g.row.M-Entry.Denot)). M.parted q.0 c.run.new.part q.1.0 q.1.1) (λ i. (whose i, (begin i, told i))) h.2,
      )) c.in-Ok.ensures.ran,
      refused_then c.in-Ok.turned _ (inr (length log, has_run caller M.event_of log x c.args.event (length log) kept.ended p k one.2 added.2.1 refl)),
      λ e. absurd (over e),
    )

pub returns-in-Err-clause-done : goal.returns-in-Err-clause-done
returns-in-Err-clause-done g c k is =
    let M = g.M.Machine in
    let caller = λ (e : g.row.M-Entry.Denot). M.caller (M.event_of e) in
    let kept = c.enter-kept.result in
    let one = knows_one caller (Good M.event_of M.start M.story M.sound (Some kept)) kept.ended c.args.place.now.me.0.seats c.enter-kept.new.place.me.0.seats k (ap (λ m. m.0.seats) is) c.enter-kept.ensures.value in
    let refused = c.in-Err.ensures.refused in
    let p = c.run.new.self.ended in (
      hears p (sees one.0 kept.ended k),
      c.leave.ensures.idle (sees one.0 kept.ended k) one.3,
      follows_same caller one.0 kept.ended p k one.2 (λ _. refused.3),
      refused.3,
      tt,
      inl (refl, refused.2),
      λ _. refused.2,
    )
