-- Each step keeps the rule.
use Rattle.std.proofs.Common.{◌≡◌, ◌≢◌, ℕ, zero, suc, ◌+◌, ◌*◌, ◌%◌, ◌^◌, ◌≤◌, List, [], ◌∷◌, ◌++◌, Bool, true, false, length, length-append, map, set, get_or, refl, sym, ap, ◌∙◌, subst, ⊎_elim, arith}
use Rattle.std.specs.Prelude.{slice_index}
use Rattle.std.proofs.Math.Nat.{mod-add-mod}
use mathlib.Core.Logic.{dite}
use mathlib.Core.Option.{none, some, some-ne-none, some-injective}
use mathlib.Core.Option as maybe
use native.Mathlib.Decide.{ℕ_discrete}
use lib.ListN.{get_elem?}
use Rattle.atomic_table.specs.Table.{State, Me, step, keeps, takes, gives, homes_after, Allows, Splits, Joins, opening, rest}
use Rattle.atomic_table.proofs.Lists.{at_set, set_else, set_again, at_snoc, at_longer, one_turn}
use Rattle.turn_gate.specs.declared.view.Knowledge.{Knowledge}
use Rattle.turn_gate.specs.declared.view.View.{View}
use Rattle.turn_gate.specs.Lists.{total, when, only}
use Rattle.turn_gate.specs.Known.{sees, adds, hears, AllAware, IsSo, AllSo, newcomers}
use Rattle.turn_gate.specs.Ruled.{kept_part, given_part, both, spent, sits, waits, holder, has_ticket, at_ticket, seat_count, for_caller, enders, Fits, Ruled, Drawn, Looked, Raised, Passed}
use Rattle.turn_gate.proofs.Sums.{only_same, only_else, total-append, total-set, total_same, term_le, terms_le, total_none, total_le, last_same, first_others, length_first_others}
use Rattle.turn_gate.proofs.Knowing.{length-sees, callers_see, aware_see, enders_le, all_see, enders_see, all_rise, all_else, adds_so, hears_so, all-append, all_first, all_others, all_newcomers, length-newcomers, once_newcomers}

module _ {S B E : Type 0} (Good : S → B → List E → Type 0) (ended_of : S → Bool) (caller : E → ℕ) (n : ℕ) (start : B) where
  abbrev K : Type 0
  K = Knowledge B E

  abbrev V : Type 0
  V = View B E

  abbrev St : Type 0
  St = State S V

  abbrev M : Type 0
  M = Me S V

  abbrev Rule : St → Type 0
  Rule = Ruled Good ended_of caller n start

  abbrev Fit : ℕ → ℕ → List E → Bool → maybe.Option S → V → Type 0
  Fit serving ticket = Fits Good ended_of caller serving ticket start

  -- what held of each view holds of each, where one was set
  views_set : (P : V → Type 0) (vs : List V) (id : ℕ) (w : V) → P w → ((j : ℕ) (u : V) → j ≢ id → get_elem? vs j ≡ some u → P u) → (j : ℕ) (u : V) → get_elem? (set vs id w) j ≡ some u → P u
  views_set P vs id w mine others j u e =
      ⊎_elim (λ (t : (j ≡ id) × (w ≡ u)). subst P t.1 mine) (λ (t : (j ≢ id) × (get_elem? vs j ≡ some u)). others j u t.0 t.1) (at_set vs id j w u e)

  at_put : {A : Type 0} (l : List A) (i : ℕ) (a b : A) → get_elem? l i ≡ some a → get_elem? (set l i b) i ≡ some b
  at_put [] i a b e = absurd (some-ne-none a (sym e))
  at_put (x ∷ xs) zero a b e = refl
  at_put (x ∷ xs) (suc i) a b e = at_put xs i a b e

  home_cases : {X : Type 0} (h : maybe.Option S) → (h ≡ none → X) → ((y : S) → h ≡ some y → X) → X
  home_cases none a b = a refl
  home_cases (some y) a b = b y refl

  abbrev Out : List V → Type 0
  Out vs = (j : ℕ) × (u : V) × (get_elem? vs j ≡ some u) × (u.has ≡ 1)

  -- the view that has the slot is not the one that was set
  out_stays : (vs : List V) (id : ℕ) (v w : V) → get_elem? vs id ≡ some v → v.has ≡ 0 → Out vs → Out (set vs id w)
  out_stays vs id v w at none_here o =
      (o.0, o.1, set_else vs id o.0 w (λ same. let e : u_of o ≡ v = some-injective _ _ (sym o.2 ∙ (ap (get_elem? vs) same ∙ at)) in let z = ap (λ (x : V). x.has) e in let one = o.3 in absurd (omega arith)) ∙ o.2, o.3)
    where
      u_of : Out vs → V
      u_of q = q.1

  -- as many know of the end as before, or more
  told_set : (o : Bool) (vs : List V) (id : ℕ) (v w : V) → get_elem? vs id ≡ some v → enders v ≤ enders w → when o 1 ≤ total enders vs → when o 1 ≤ total enders (set vs id w)
  told_set o vs id v w at more told = let t = total-set enders vs id v w at in omega arith

  -- fewer than 2 ^ 64 tickets are out
  few_out : (s : St) (r : Rule s) → r.ticket ≤ r.serving + 2 ^ 32
  few_out s r =
      let less = total_le has_ticket seat_count s.views (λ j v e. (r.fits j v e).may) in
      let a = r.given in let b = r.parts in let c = r.few in omega arith

  pub draws : (slots id : ℕ) (me : M) (ks : List K) → me.0 ≡ sits ks → 1 ≤ length ks → Allows Rule slots id me 0 (λ k. (k + 1) % 2 ^ 64) (Drawn Good ended_of caller (step slots 0 1 0 none) me)
  draws slots id me ks is some_seat s r deep at lt =
      let v : V = me.0 in
      let w : V = waits r.ticket v.seats in
      let idle : v.waits ≡ 0 = ap (λ (x : V). x.waits) is in
      let fit = r.fits id v at in
      let seats : 1 ≤ length v.seats = subst (λ (x : V). 1 ≤ length x.seats) (sym is) some_seat in
      let words' = ap (λ ws. set ws 0 ((slice_index ws 0 + 1) % 2 ^ 64)) r.words ∙ ap (λ k. k ∷ r.serving % 2 ^ 64 ∷ length r.log ∷ []) (mod-add-mod r.ticket (2 ^ 64) 1) in
      let sum = total-set has_ticket s.views id v w at in
      let nobody : (j : ℕ) (u : V) → get_elem? s.views j ≡ some u → at_ticket r.ticket u ≡ 0 = λ j u e.
      let f = r.fits j u e in dite (ℕ_discrete u.ticket r.ticket)
      (λ same. dite (ℕ_discrete u.waits 1) (λ one. let lies = f.range one in absurd (omega arith)) (λ not. let le = f.one in let z : u.waits ≡ 0 = omega arith in ap (λ k. only r.ticket u.ticket * k) z ∙ omega arith))
      (λ other. ap (λ k. k * u.waits) (only_else r.ticket u.ticket other) ∙ omega arith) in (
        w,
        keeps,
        tt,
        record {
          ticket = r.ticket + 1;
          serving = r.serving;
          log = r.log;
          over = r.over;
          home = r.home;
          words = words';
          homes = r.homes;
          few = r.few;
          given = (let g = r.given in omega arith);
          once = λ k. (let t = total-set (at_ticket k) s.views id v w at in let o = r.once k in dite (ℕ_discrete r.ticket k)
              (λ same. let zero_now : total (at_ticket k) s.views ≡ 0 = ap (λ x. total (at_ticket x) s.views) (sym same) ∙ total_none (at_ticket r.ticket) s.views nobody in let one : only k r.ticket ≡ 1 = ap (only k) same ∙ only_same k in omega arith)
              (λ other. let zero_here = only_else k r.ticket other in omega arith));
          parts = total_same seat_count s.views id v w at refl ∙ r.parts;
          apart = λ c. subst (λ x. x ≤ 1) (sym (total_same (for_caller c) s.views id v w at refl)) (r.apart c);
          fits = views_set (Fit r.serving (r.ticket + 1) r.log r.over r.home) s.views id w
              record { one = omega arith; may = seats; range = λ _. (let g = r.given in (omega arith, omega arith)); holds = λ h. absurd (omega arith); knows = fit.knows }
              (λ j u other e. let f = r.fits j u e in record { one = f.one; may = f.may; range = λ h. (let q = f.range h in (q.0, omega arith)); holds = f.holds; knows = f.knows });
          out = λ h. out_stays s.views id v w at (ap (λ (x : V). x.has) is) (r.out h);
          inside = r.inside;
          told = subst (λ x. when r.over 1 ≤ x) (sym (total_same enders s.views id v w at refl)) r.told;
        },
        (r.ticket, sym (ap (λ ws. slice_index ws 0) r.words), refl),
      )

  -- no two views have the ticket that is served
  sole : (s : St) (r : Rule s) (id : ℕ) (v : V) → get_elem? s.views id ≡ some v → v.waits ≡ 1 → v.ticket ≡ r.serving → (j : ℕ) (u : V) → j ≢ id → get_elem? s.views j ≡ some u → u.waits ≡ 1 → u.ticket ≡ r.serving → ⊥
  sole s r id v at one mine j u apart e uone theirs =
      let two = terms_le (at_ticket r.serving) s.views id j v u apart at e in
      let o = r.once r.serving in
      let a : at_ticket r.serving v ≡ 1 = (λ i. only r.serving (mine i) * one i) ∙ ap (λ k. k * 1) (only_same r.serving) in
      let b : at_ticket r.serving u ≡ 1 = (λ i. only r.serving (theirs i) * uone i) ∙ ap (λ k. k * 1) (only_same r.serving) in
      absurd (omega arith)

  pub looks : (slots id : ℕ) (me : M) (k : ℕ) (ks : List K) → me.0 ≡ waits k ks → Allows Rule slots id me 1 (λ x. x) (Looked Good ended_of caller (step slots 1 0 0 none) me)
  looks slots id me k ks is s r deep at lt =
      let v : V = me.0 in
      let fit = r.fits id v at in
      let one : v.waits ≡ 1 = ap (λ (x : V). x.waits) is in
      let not_yet : v.has ≡ 0 = ap (λ (x : V). x.has) is in
      let word : slice_index s.words 1 ≡ r.serving % 2 ^ 64 = ap (λ ws. slice_index ws 1) r.words in
      let words' = ap (λ ws. set ws 1 (slice_index ws 1)) r.words in
      let same_views : set s.views id v ≡ s.views = set_again s.views id v at in
      dite (ℕ_discrete (v.ticket % 2 ^ 64) (slice_index s.words 1))
      (λ served.
      let most = few_out s r in
      let range = fit.range one in
      let mine : r.serving ≡ v.ticket = one_turn r.serving v.ticket (2 ^ 64) range.0 (omega arith) (sym (served ∙ word)) in
      home_cases r.home
      (λ gone. let o = r.out gone in let f = r.fits o.0 o.1 o.2 in let h = f.holds o.3 in
      absurd (dite (ℕ_discrete o.0 id)
      (λ same. let e : o.1 ≡ v = some-injective _ _ (sym o.2 ∙ (ap (get_elem? s.views) same ∙ at)) in let z = ap (λ (x : V). x.has) e in let q = o.3 in omega arith)
      (λ apart. sole s r id v at one (sym mine) o.0 o.1 apart o.2 h.0 h.1)))
      (λ y here.
      let good = r.inside y here in
      let seen : List K = map (sees r.log r.over) v.seats in
      let w : V = holder v.ticket seen in
      let count : length seen ≡ length v.seats = length-sees r.log r.over v.seats in (
        w,
        takes 0 y,
        ap (λ hs. get_elem? hs 0) r.homes ∙ ap some here,
        record {
          ticket = r.ticket;
          serving = r.serving;
          log = r.log;
          over = r.over;
          home = none;
          words = words';
          homes = ap (λ hs. set hs 0 none) r.homes;
          few = r.few;
          given = (let g = r.given in g ∙ ap (λ x. r.serving + x) (sym (total_same has_ticket s.views id v w at (sym one))));
          once = λ t. subst (λ x. x ≤ 1) (sym (total_same (at_ticket t) s.views id v w at (ap (λ x. only t v.ticket * x) (sym one)))) (r.once t);
          parts = total_same seat_count s.views id v w at count ∙ r.parts;
          apart = λ c. subst (λ x. x ≤ 1) (sym (total_same (for_caller c) s.views id v w at (callers_see c r.log r.over v.seats))) (r.apart c);
          fits = views_set (Fit r.serving r.ticket r.log r.over none) s.views id w
              record { one = omega arith; may = (let m = fit.may in omega arith); range = λ _. range; holds = λ _. (refl, sym mine, refl, aware_see r.log r.over v.seats); knows = all_see caller start r.log r.over v.seats fit.knows }
              (λ j u other e. let f = r.fits j u e in record { one = f.one; may = f.may; range = f.range; holds = λ h. (let q = f.holds h in (q.0, q.1, refl, q.3)); knows = f.knows });
          out = λ _. (id, w, at_put s.views id v w at, refl);
          inside = λ z e. absurd (some-ne-none z (sym e));
          told = told_set r.over s.views id v w at (enders_see caller start r.log r.over v.seats fit.knows) r.told;
        },
        (
          (λ not. absurd (not served)),
          λ _. (
            start,
            r.log,
            y,
            good.0,
            subst (λ o. AllSo caller start r.log o v.seats) (sym good.1) fit.knows,
            (λ i. (holder v.ticket (map (sees r.log (sym good.1 i)) v.seats), (0, y) ∷ me.1)),
          ),
        ),
      )))
      (λ not. (
        v,
        keeps,
        tt,
        record {
          ticket = r.ticket;
          serving = r.serving;
          log = r.log;
          over = r.over;
          home = r.home;
          words = words';
          homes = r.homes;
          few = r.few;
          given = subst (λ vs. r.ticket ≡ r.serving + total has_ticket vs) (sym same_views) r.given;
          once = λ t. subst (λ vs. total (at_ticket t) vs ≤ 1) (sym same_views) (r.once t);
          parts = subst (λ vs. total seat_count vs ≡ n) (sym same_views) r.parts;
          apart = λ c. subst (λ vs. total (for_caller c) vs ≤ 1) (sym same_views) (r.apart c);
          fits = λ j u e. r.fits j u (ap (λ vs. get_elem? vs j) (sym same_views) ∙ e);
          out = λ h. subst Out (sym same_views) (r.out h);
          inside = r.inside;
          told = subst (λ vs. when r.over 1 ≤ total enders vs) (sym same_views) r.told;
        },
        ((λ _. refl), λ served. absurd (not served)),
      ))

  -- the first of two equal lists of one
  only_one : {A : Type 0} (a b : A) → a ∷ [] ≡ b ∷ [] → a ≡ b
  only_one a b e = ap (λ l. get_or l 0 a) e

  pub passes : (slots id : ℕ) (me : M) (t : ℕ) (k : K) (y : S) → me.0 ≡ holder t (k ∷ []) → me.1 ≡ (0, y) ∷ [] → Good y k.start k.seen → (k.ended ≡ true → ended_of y ≡ true)
      → Allows Rule slots id me 1 (λ x. (x + 1) % 2 ^ 64) (Passed Good ended_of caller (step slots 1 1 0 none) me)
  passes slots id me t k y is holds_slot good rises s r deep at lt =
      let v : V = me.0 in
      let fit = r.fits id v at in
      let one : v.waits ≡ 1 = ap (λ (x : V). x.waits) is in
      let has : v.has ≡ 1 = ap (λ (x : V). x.has) is in
      let seat : v.seats ≡ k ∷ [] = ap (λ (x : V). x.seats) is in
      let h = fit.holds has in
      let so : IsSo caller start r.log r.over k = (subst (AllSo caller start r.log r.over) seat fit.knows).0 in
      let aware = subst (AllAware r.log r.over) seat h.3 in
      let all : k.seen ≡ r.log = aware.0 in
      let now : Bool = ended_of y in
      let after : r.over ≡ true → now ≡ true = λ o. rises (aware.1 ∙ o) in
      let w : V = sits (hears now k ∷ []) in
      let same_count : seat_count w ≡ seat_count v = sym (ap length seat) in
      let same_callers : (c : ℕ) → for_caller c w ≡ for_caller c v = λ c. sym (ap (total (λ (x : K). only c x.caller)) seat) in
      let words' = ap (λ ws. set ws 1 ((slice_index ws 1 + 1) % 2 ^ 64)) r.words ∙ ap (λ x. r.ticket % 2 ^ 64 ∷ x ∷ length r.log ∷ []) (mod-add-mod r.serving (2 ^ 64) 1) in
      let homes' : homes_after s.homes me.1 gives ≡ some y ∷ [] = (λ i. homes_after (r.homes i) (holds_slot i) gives) in (
        w,
        gives,
        tt,
        record {
          ticket = r.ticket;
          serving = r.serving + 1;
          log = r.log;
          over = now;
          home = some y;
          words = words';
          homes = homes';
          few = r.few;
          given = (let q = total-set has_ticket s.views id v w at in let g = r.given in omega arith);
          once = λ x. (let q = total-set (at_ticket x) s.views id v w at in let o = r.once x in let z : at_ticket x w ≡ 0 = omega arith in omega arith);
          parts = total_same seat_count s.views id v w at same_count ∙ r.parts;
          apart = λ c. subst (λ x. x ≤ 1) (sym (total_same (for_caller c) s.views id v w at (same_callers c))) (r.apart c);
          fits = views_set (Fit (r.serving + 1) r.ticket r.log now (some y)) s.views id w
              record { one = omega arith; may = omega arith; range = λ z. absurd (omega arith); holds = λ z. absurd (omega arith); knows = (hears_so caller start r.log r.over now k all so, tt) }
              (λ j u other e. let f = r.fits j u e in let lone = sole s r id v at one h.1 j u other e in record {
                one = f.one;
                may = f.may;
                range = λ z. (let q = f.range z in let ne : u.ticket ≢ r.serving = lone z in (omega arith, q.1));
                holds = λ z. (let q = f.holds z in absurd (lone q.0 q.1));
                knows = all_rise caller start r.log r.over now u.seats after f.knows;
              });
          out = λ z. absurd (some-ne-none y z);
          inside = λ z e. (let same = some-injective y z e in (subst (λ (q : S × (B × List E)). Good q.0 q.1.0 q.1.1) (λ i. (same i, (so.began i, all i))) good, ap ended_of (sym same)));
          told = (let a = term_le enders (set s.views id w) id w (at_put s.views id v w at) in omega arith);
        },
        (λ k' y' seat' slot'.
            let knows : k ≡ k' = only_one k k' (sym seat ∙ seat') in
            let same : y ≡ y' = ap (λ (l : List (ℕ × S)). (get_or l 0 (0, y)).1) (sym holds_slot ∙ slot') in
            λ i. (sits (hears (ended_of (same i)) (knows i) ∷ []), rest me.1)),
      )

  pub raises : (slots id : ℕ) (me : M) (t : ℕ) (k : K) (e : E) (y : S) (new : ℕ) → ((z : S) (b : B) (xs ys : List E) → Good z b xs → Good z b ys → xs ≡ ys)
      → me.0 ≡ holder t (k ∷ []) → me.1 ≡ (0, y) ∷ [] → Good y k.start (k.seen ++ e ∷ []) → caller e ≡ k.caller → k.ended ≡ false → new ≡ length k.seen + 1
      → Allows Rule slots id me 2 (λ _. new) (λ _. Raised Good ended_of caller (step slots 2 new 0 none) me new)
  raises slots id me t k e y new functional is holds_slot good whose lasts counted s r deep at lt =
      let v : V = me.0 in
      let fit = r.fits id v at in
      let one : v.waits ≡ 1 = ap (λ (x : V). x.waits) is in
      let has : v.has ≡ 1 = ap (λ (x : V). x.has) is in
      let seat : v.seats ≡ k ∷ [] = ap (λ (x : V). x.seats) is in
      let h = fit.holds has in
      let so : IsSo caller start r.log r.over k = (subst (AllSo caller start r.log r.over) seat fit.knows).0 in
      let aware = subst (AllAware r.log r.over) seat h.3 in
      let all : k.seen ≡ r.log = aware.0 in
      let goes_on : r.over ≡ false = sym aware.1 ∙ lasts in
      let log' : List E = r.log ++ e ∷ [] in
      let w : V = holder v.ticket (adds e k ∷ []) in
      let same_callers : (c : ℕ) → for_caller c w ≡ for_caller c v = λ c. sym (ap (total (λ (x : K). only c x.caller)) seat) in
      let same_count : seat_count w ≡ seat_count v = sym (ap length seat) in
      let same_enders : enders w ≡ enders v = sym (ap (total (λ (x : K). when x.ended 1)) seat) in
      let grown : new ≡ length log' = counted ∙ (ap (λ l. length l + 1) all ∙ sym (length-append r.log (e ∷ []))) in (
        w,
        keeps,
        tt,
        record {
          ticket = r.ticket;
          serving = r.serving;
          log = log';
          over = r.over;
          home = r.home;
          words = ap (λ ws. set ws 2 new) r.words ∙ ap (λ x. r.ticket % 2 ^ 64 ∷ r.serving % 2 ^ 64 ∷ x ∷ []) grown;
          homes = r.homes;
          few = r.few;
          given = (let g = r.given in g ∙ ap (λ x. r.serving + x) (sym (total_same has_ticket s.views id v w at (sym one))));
          once = λ x. subst (λ q. q ≤ 1) (sym (total_same (at_ticket x) s.views id v w at (ap (λ q. only x v.ticket * q) (sym one)))) (r.once x);
          parts = total_same seat_count s.views id v w at same_count ∙ r.parts;
          apart = λ c. subst (λ x. x ≤ 1) (sym (total_same (for_caller c) s.views id v w at (same_callers c))) (r.apart c);
          fits = views_set (Fit r.serving r.ticket log' r.over r.home) s.views id w
              record {
                one = omega arith;
                may = omega arith;
                range = λ _. fit.range one;
                holds = λ _. (refl, h.1, h.2, (ap (λ l. l ++ e ∷ []) all, aware.1, tt));
                knows = (subst (λ o. IsSo caller start log' o (adds e k)) (sym goes_on) (adds_so caller start r.log e k whose all (subst (λ o. IsSo caller start r.log o k) goes_on so)), tt);
              }
              (λ j u other q. let f = r.fits j u q in
              let two = terms_le (for_caller (caller e)) s.views id j v u other at q in
              let me_one : for_caller (caller e) v ≡ 1 = ap (total (λ (x : K). only (caller e) x.caller)) seat ∙ omega (arith, ap (λ c. only (caller e) c) (sym whose) ∙ only_same (caller e)) in
              let at_most = r.apart (caller e) in
              let nothing : for_caller (caller e) u ≡ 0 = omega arith in
              record {
                one = f.one;
                may = f.may;
                range = f.range;
                holds = λ z. (let p = f.holds z in absurd (sole s r id v at one h.1 j u other q p.0 p.1));
                knows = subst (λ o. AllSo caller start log' o u.seats) (sym goes_on) (all_else caller start r.log e u.seats nothing (subst (λ o. AllSo caller start r.log o u.seats) goes_on f.knows));
              });
          out = λ _. (id, w, at_put s.views id v w at, refl);
          inside = λ z q. absurd (some-ne-none z (sym q ∙ h.2));
          told = subst (λ x. when r.over 1 ≤ x) (sym (total_same enders s.views id v w at same_enders)) r.told;
        },
        (λ k' e' z whose' seat' slot' good'.
            let knows : k ≡ k' = only_one k k' (sym seat ∙ seat') in
            let same : y ≡ z = ap (λ (l : List (ℕ × S)). (get_or l 0 (0, y)).1) (sym holds_slot ∙ slot') in
            let good'' : Good y k.start (k.seen ++ e' ∷ []) = subst (λ (q : S × K). Good q.0 q.1.start (q.1.seen ++ e' ∷ [])) (λ i. (sym same i, sym knows i)) good' in
            let event : e ≡ e' = last_same k.seen e e' (functional y k.start (k.seen ++ e ∷ []) (k.seen ++ e' ∷ []) good good'') in
            λ i. (holder v.ticket (adds (event i) (knows i) ∷ []), me.1)),
      )

  pub starts : (log : List E) (y : S) → Good y start log → ended_of y ≡ false → n ≤ 2 ^ 32 → Rule (opening (0 ∷ 0 ∷ length log ∷ []) (y ∷ []) (sits (newcomers caller start log 1 n)))
  starts log y good lasts few =
      let ks : List K = newcomers caller start log 1 n in
      let v : V = sits ks in
      record {
        ticket = 0;
        serving = 0;
        log = log;
        over = false;
        home = some y;
        words = refl;
        homes = refl;
        few = few;
        given = refl;
        once = λ k. (let z : at_ticket k v ≡ 0 = omega arith in omega arith);
        parts = (let l = length-newcomers caller start log 1 n in omega arith);
        apart = λ c. (let l = (once_newcomers caller start log c 1 n).0 in omega arith);
        fits = λ j u e. alone v j u e (Fit 0 0 log false (some y))
            record { one = omega arith; may = omega arith; range = λ z. absurd (omega arith); holds = λ z. absurd (omega arith); knows = all_newcomers caller start log 1 n };
        out = λ z. absurd (some-ne-none y z);
        inside = λ z e. (let same = some-injective y z e in (subst (λ q. Good q start log) same good, ap ended_of (sym same) ∙ lasts));
        told = omega arith;
      }
    where
      alone : (v : V) (j : ℕ) (u : V) → get_elem? (v ∷ []) j ≡ some u → (P : V → Type 0) → P v → P u
      alone v zero u e P h = subst P (some-injective v u e) h
      alone v (suc j) u e P h = absurd (some-ne-none u (sym e))

  pub splits : (id : ℕ) (v : V) (ks : List K) → v ≡ sits ks → Splits Rule id v (kept_part v) (given_part v)
  splits id v ks is s r at =
      let a : V = kept_part v in
      let b : V = given_part v in
      let fit = r.fits id v at in
      let idle : v.waits ≡ 0 = ap (λ (x : V). x.waits) is in
      let empty : v.has ≡ 0 = ap (λ (x : V). x.has) is in
      record {
        ticket = r.ticket;
        serving = r.serving;
        log = r.log;
        over = r.over;
        home = r.home;
        words = r.words;
        homes = r.homes;
        few = r.few;
        given = (let t = total-append has_ticket (set s.views id a) (b ∷ []) in let q = total-set has_ticket s.views id v a at in let g = r.given in omega arith);
        once = λ k. (let t = total-append (at_ticket k) (set s.views id a) (b ∷ []) in let q = total-set (at_ticket k) s.views id v a at in let o = r.once k in
            let x : at_ticket k a ≡ 0 = omega arith in let y : at_ticket k b ≡ 0 = omega arith in omega arith);
        parts = (let t = total-append seat_count (set s.views id a) (b ∷ []) in let q = total-set seat_count s.views id v a at in let p = r.parts in let l = length_first_others v.seats in omega arith);
        apart = λ c. (let t = total-append (for_caller c) (set s.views id a) (b ∷ []) in let q = total-set (for_caller c) s.views id v a at in let p = r.apart c in let l = first_others (λ (x : K). only c x.caller) v.seats in omega arith);
        fits = λ j u e. ⊎_elim
            (views_set (Fit r.serving r.ticket r.log r.over r.home) s.views id a
            record { one = omega arith; may = omega arith; range = λ z. absurd (omega arith); holds = λ z. absurd (omega arith); knows = all_first caller start r.log r.over v.seats fit.knows }
            (λ i x _ q. r.fits i x q) j u)
            (λ (t : b ≡ u). subst (Fit r.serving r.ticket r.log r.over r.home) t
            record { one = omega arith; may = omega arith; range = λ z. absurd (omega arith); holds = λ z. absurd (omega arith); knows = all_others caller start r.log r.over v.seats fit.knows })
            (at_snoc (set s.views id a) b u j e);
        out = λ h. (let o = out_stays s.views id v a at empty (r.out h) in (o.0, o.1, at_longer (set s.views id a) (b ∷ []) o.0 o.1 o.2, o.3));
        inside = r.inside;
        told = (let t = total-append enders (set s.views id a) (b ∷ []) in let q = total-set enders s.views id v a at in let p = r.told in let l = first_others (λ (x : K). when x.ended 1) v.seats in omega arith);
      }

  pub joins : (id : ℕ) (v : V) (ks : List K) (other : ℕ) (w : V) (ls : List K) → v ≡ sits ks → w ≡ sits ls → Joins Rule id v other w (both v w) spent
  joins id v ks other w ls is is' s r at apart there =
      let a : V = both v w in
      let vs : List V = set s.views id a in
      let fit = r.fits id v at in
      let idle : v.waits ≡ 0 = ap (λ (x : V). x.waits) is in
      let empty : v.has ≡ 0 = ap (λ (x : V). x.has) is in
      let idle' : w.waits ≡ 0 = ap (λ (x : V). x.waits) is' in
      let empty' : w.has ≡ 0 = ap (λ (x : V). x.has) is' in
      let fit' = r.fits other w (sym (set_else s.views id other a apart) ∙ there) in
      let F : V → Type 0 = Fit r.serving r.ticket r.log r.over r.home in
      record {
        ticket = r.ticket;
        serving = r.serving;
        log = r.log;
        over = r.over;
        home = r.home;
        words = r.words;
        homes = r.homes;
        few = r.few;
        given = (let p = total-set has_ticket s.views id v a at in let q = total-set has_ticket vs other w spent there in let g = r.given in omega arith);
        once = λ k. (let p = total-set (at_ticket k) s.views id v a at in let q = total-set (at_ticket k) vs other w spent there in let o = r.once k in
            let x : at_ticket k a ≡ 0 = omega arith in let y : at_ticket {B = B} {E = E} k spent ≡ 0 = omega arith in omega arith);
        parts = (let p = total-set seat_count s.views id v a at in let q = total-set seat_count vs other w spent there in let g = r.parts in let l = length-append v.seats w.seats in omega arith);
        apart = λ c. (let p = total-set (for_caller c) s.views id v a at in let q = total-set (for_caller c) vs other w spent there in let g = r.apart c in let l = total-append (λ (x : K). only c x.caller) v.seats w.seats in omega arith);
        fits = views_set F vs other spent
            record { one = omega arith; may = omega arith; range = λ z. absurd (omega arith); holds = λ z. absurd (omega arith); knows = tt }
            (λ j u _ e. views_set F s.views id a
            record { one = omega arith; may = omega arith; range = λ z. absurd (omega arith); holds = λ z. absurd (omega arith); knows = all-append caller start r.log r.over v.seats w.seats fit.knows fit'.knows }
            (λ i x _ q. r.fits i x q) j u e);
        out = λ h. out_stays vs other w spent there empty' (out_stays s.views id v a at empty (r.out h));
        inside = r.inside;
        told = (let p = total-set enders s.views id v a at in let q = total-set enders vs other w spent there in let g = r.told in let l = total-append (λ (x : K). when x.ended 1) v.seats w.seats in omega arith);
      }

  -- A seat that stands for all shows that the slot is at home. If the machine has ended, one of them knows it
  pub closes : (s : St) (id : ℕ) (v : V) (ks : List K) → Rule s → get_elem? s.views id ≡ some v → v ≡ sits ks → length ks ≡ n
      → (y : S) × (log : List E) × (get_elem? s.homes 0 ≡ some (some y)) × Good y start log × AllSo caller start log (ended_of y) ks × (when (ended_of y) 1 ≤ total (λ (x : K). when x.ended 1) ks)
  closes s id v ks r at is all =
      let empty : v.has ≡ 0 = ap (λ (x : V). x.has) is in
      let seats : v.seats ≡ ks = ap (λ (x : V). x.seats) is in
      let mine : length v.seats ≡ n = ap length seats ∙ all in
      let others : total enders (set s.views id spent) ≤ total seat_count (set s.views id spent) = total_le enders seat_count (set s.views id spent) (λ j u e. enders_le u.seats) in
      let count = total-set seat_count s.views id v spent at in
      let known = total-set enders s.views id v spent at in
      let parts = r.parts in
      let told = r.told in
      let here : when r.over 1 ≤ enders v = omega arith in
      home_cases r.home
      (λ gone.
      let o = r.out gone in
      let f = r.fits o.0 o.1 o.2 in
      let one : o.1.waits ≡ 1 = (f.holds o.3).0 in
      let may = f.may in
      absurd (dite (ℕ_discrete o.0 id)
      (λ same. let e : o.1 ≡ v = some-injective _ _ (sym o.2 ∙ (ap (get_elem? s.views) same ∙ at)) in let z = ap (λ (x : V). x.has) e in let q = o.3 in omega arith)
      (λ apart. let two = terms_le seat_count s.views id o.0 v o.1 apart at o.2 in omega arith)))
      (λ y home. let good = r.inside y home in (
        y,
        r.log,
        ap (λ hs. get_elem? hs 0) r.homes ∙ ap some home,
        good.0,
        subst (λ (q : List K × Bool). AllSo caller start r.log q.1 q.0) (λ i. (seats i, sym good.1 i)) (r.fits id v at).knows,
        subst (λ (q : List K × Bool). when q.1 1 ≤ total (λ (x : K). when x.ended 1) q.0) (λ i. (seats i, sym good.1 i)) here,
      ))
