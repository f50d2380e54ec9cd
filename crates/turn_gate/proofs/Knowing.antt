-- What seats know stays so, step by step.
use Rattle.std.proofs.Common.{◌≡◌, ℕ, zero, suc, ◌+◌, ◌<◌, ◌≤◌, List, [], ◌∷◌, ◌++◌, length, map, Bool, true, false, true≢false, refl, sym, ap, ◌∙◌, arith}
use mathlib.Core.Logic.{dite}
use native.Mathlib.Decide.{ℕ_discrete}
use Rattle.turn_gate.specs.declared.view.Knowledge.{Knowledge}
use Rattle.turn_gate.specs.Lists.{total, when, only, first_of, others_of}
use Rattle.turn_gate.specs.Known.{sees, adds, hears, AllAware, IsSo, AllSo, newcomers}
use Rattle.turn_gate.proofs.Sums.{only_same, only_else, events_by_one, events_by_else, begins_more, begins_whole, when_le}

module _ {B E : Type 0} where
  pub length-sees : (log : List E) (o : Bool) (ks : List (Knowledge B E)) → length (map (sees log o) ks) ≡ length ks
  length-sees log o [] = refl
  length-sees log o (k ∷ ks) = ap suc (length-sees log o ks)

  pub callers_see : (c : ℕ) (log : List E) (o : Bool) (ks : List (Knowledge B E)) → total (λ (k : Knowledge B E). only c k.caller) (map (sees log o) ks) ≡ total (λ (k : Knowledge B E). only c k.caller) ks
  callers_see c log o [] = refl
  callers_see c log o (k ∷ ks) = ap (λ t. only c k.caller + t) (callers_see c log o ks)

  pub aware_see : (log : List E) (o : Bool) (ks : List (Knowledge B E)) → AllAware log o (map (sees log o) ks)
  aware_see log o [] = tt
  aware_see log o (k ∷ ks) = (refl, refl, aware_see log o ks)

  -- at most as many know of the end as there are
  pub enders_le : (ks : List (Knowledge B E)) → total (λ (k : Knowledge B E). when k.ended 1) ks ≤ length ks
  enders_le [] = omega arith
  enders_le (k ∷ ks) = let a = when_le k.ended true (λ _. refl) in let ih = enders_le ks in omega arith

module _ {B E : Type 0} (caller : E → ℕ) (start : B) where
  pub sees_so : (log : List E) (o : Bool) (k : Knowledge B E) → IsSo caller start log o k → IsSo caller start log o (sees log o k)
  sees_so log o k h = record { began = h.began; begins = begins_whole log log refl; had = h.has; has = h.has; over = λ e. (e, refl) }

  pub all_see : (log : List E) (o : Bool) (ks : List (Knowledge B E)) → AllSo caller start log o ks → AllSo caller start log o (map (sees log o) ks)
  all_see log o [] h = tt
  all_see log o (k ∷ ks) h = (sees_so log o k h.0, all_see log o ks h.1)

  -- once one has seen the end, all others that see the machine know of it too
  pub enders_see : (log : List E) (o : Bool) (ks : List (Knowledge B E)) → AllSo caller start log o ks → total (λ (k : Knowledge B E). when k.ended 1) ks ≤ total (λ (k : Knowledge B E). when k.ended 1) (map (sees log o) ks)
  enders_see log o [] h = omega arith
  enders_see log o (k ∷ ks) h = let one = when_le k.ended o (λ e. (h.0.over e).0) in let ih = enders_see log o ks h.1 in omega arith

  -- the machine may have ended since
  pub all_rise : (log : List E) (o p : Bool) (ks : List (Knowledge B E)) → (o ≡ true → p ≡ true) → AllSo caller start log o ks → AllSo caller start log p ks
  all_rise log o p [] rises h = tt
  all_rise log o p (k ∷ ks) rises h =
      let s = h.0 in
      (record { began = s.began; begins = s.begins; had = s.had; has = s.has; over = λ e. (rises (s.over e).0, (s.over e).1) }, all_rise log o p ks rises h.1)

  -- the event of a caller that is not among them
  pub all_else : (log : List E) (e : E) (ks : List (Knowledge B E)) → total (λ (k : Knowledge B E). only (caller e) k.caller) ks ≡ 0 → AllSo caller start log false ks → AllSo caller start (log ++ e ∷ []) false ks
  all_else log e [] none h = tt
  all_else log e (k ∷ ks) none h =
      dite (ℕ_discrete k.caller (caller e))
      (λ same. let one : only (caller e) k.caller ≡ 1 = ap (only (caller e)) same ∙ only_same (caller e) in absurd (omega arith))
      (λ other. let s = h.0 in (
        record {
          began = s.began;
          begins = begins_more k.seen log (e ∷ []) s.begins;
          had = s.had;
          has = events_by_else caller k.caller e log (λ t. other (sym t)) ∙ s.has;
          over = λ o. absurd (true≢false (sym (s.over o).0));
        },
        all_else log e ks (omega arith) h.1,
      ))

  -- an event of the seat's own
  pub adds_so : (log : List E) (e : E) (k : Knowledge B E) → caller e ≡ k.caller → k.seen ≡ log → IsSo caller start log false k → IsSo caller start (log ++ e ∷ []) false (adds e k)
  adds_so log e k whose all s = record {
    began = s.began;
    begins = begins_whole (k.seen ++ e ∷ []) (log ++ e ∷ []) (ap (λ l. l ++ e ∷ []) all);
    had = events_by_one caller k.caller e k.seen whose ∙ ap (λ l. l ++ e ∷ []) s.had;
    has = events_by_one caller k.caller e log whose ∙ ap (λ l. l ++ e ∷ []) s.has;
    over = λ o. absurd (true≢false (sym (s.over o).0));
  }

  -- the seat that passes the turn on knows whether the machine has ended
  pub hears_so : (log : List E) (o p : Bool) (k : Knowledge B E) → k.seen ≡ log → IsSo caller start log o k → IsSo caller start log p (hears p k)
  hears_so log o p k all s = record { began = s.began; begins = s.begins; had = s.had; has = s.has; over = λ e. (e, all) }

  pub all-append : (log : List E) (o : Bool) (ks ls : List (Knowledge B E)) → AllSo caller start log o ks → AllSo caller start log o ls → AllSo caller start log o (ks ++ ls)
  all-append log o [] ls h g = g
  all-append log o (k ∷ ks) ls h g = (h.0, all-append log o ks ls h.1 g)

  pub all_first : (log : List E) (o : Bool) (ks : List (Knowledge B E)) → AllSo caller start log o ks → AllSo caller start log o (first_of ks)
  all_first log o [] h = tt
  all_first log o (k ∷ ks) h = (h.0, tt)

  pub all_others : (log : List E) (o : Bool) (ks : List (Knowledge B E)) → AllSo caller start log o ks → AllSo caller start log o (others_of ks)
  all_others log o [] h = tt
  all_others log o (k ∷ ks) h = h.1

  pub all_newcomers : (log : List E) (k m : ℕ) → AllSo caller start log false (newcomers caller start log k m)
  all_newcomers log k zero = tt
  all_newcomers log k (suc m) = (record { began = refl; begins = begins_whole log log refl; had = refl; has = refl; over = λ e. absurd (true≢false (sym e)) }, all_newcomers log (suc k) m)

  pub length-newcomers : (log : List E) (k m : ℕ) → length (newcomers caller start log k m) ≡ m
  length-newcomers log k zero = refl
  length-newcomers log k (suc m) = ap suc (length-newcomers log (suc k) m)

  -- no caller is twice among them
  pub once_newcomers : (log : List E) (c k m : ℕ) → (total (λ (x : Knowledge B E). only c x.caller) (newcomers caller start log k m) ≤ 1) × (c < k → total (λ (x : Knowledge B E). only c x.caller) (newcomers caller start log k m) ≡ 0)
  once_newcomers log c k zero = (omega arith, λ _. refl)
  once_newcomers log c k (suc m) =
      let more = once_newcomers log c (suc k) m in
      dite (ℕ_discrete k c)
      (λ same. let none = more.1 (omega arith) in let one : only c k ≡ 1 = ap (only c) same ∙ only_same c in (omega arith, λ h. absurd (omega arith)))
      (λ other. let zero_here = only_else c k other in (omega (arith, more.0), λ h. omega (arith, more.1 (omega arith))))
