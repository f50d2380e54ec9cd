-- What a seat knows once it is served, and a caller's part while others take turns.
use Rattle.std.proofs.Common.{◌≡◌, ℕ, List, [], ◌∷◌, ◌++◌, length, map, eq-eqb, ne_eqb, Bool, true, false, true≢false, refl, sym, ap, ◌∙◌, subst, drop, arith}
use mathlib.Core.Logic.{dite}
use native.Mathlib.Decide.{ℕ_discrete}
use Rattle.turn_gate.specs.declared.answer.Turned.{Turned}
use Rattle.turn_gate.specs.declared.answer.Turned.TheVariants as turned
use Rattle.turn_gate.specs.declared.view.Knowledge.{Knowledge}
use Rattle.turn_gate.specs.Lists.{put_if, events_by}
use Rattle.turn_gate.specs.Known.{sees, adds, hears, IsSo, AllSo}
use Rattle.turn_gate.specs.Turns.{IfRan, IfRefused, is_refused, Follows, HasRun}
use Rattle.turn_gate.proofs.Sums.{append_nil, append_assoc, begins_more, events_by-append}

append_same : {A : Type 0} (l m : List A) → l ++ m ≡ l → m ≡ []
append_same [] m h = h
append_same (x ∷ xs) m h = append_same xs m (ap (drop 1) h)

-- what holds of a place holds where there is one
pub ran_only : (t : Turned) (P : ℕ → Type 0) (Q : Type 0) → ((n : ℕ) → P n → Q) → IfRan t P → is_refused t ≡ false → Q
ran_only (turned.Ran place) P Q f h e = f place h
ran_only turned.NoMemory P Q f h e = absurd (true≢false e)

pub ran_then : (t : Turned) (P Q : ℕ → Type 0) → ((n : ℕ) → P n → Q n) → IfRan t P → IfRan t Q
ran_then (turned.Ran place) P Q f h = f place h
ran_then turned.NoMemory P Q f h = tt

pub refused_then : (t : Turned) (P : Type 0) → P → IfRefused t P
refused_then (turned.Ran place) P p = tt
refused_then turned.NoMemory P p = p

pub not_yet : (a b : Bool) → (a ≡ true → b ≡ true) → b ≡ false → a ≡ false
not_yet true b h e = absurd (true≢false (sym (h refl) ∙ e))
not_yet false b h e = refl

-- the caller has no events between
none_between : {E : Type 0} (caller : E → ℕ) (c : ℕ) (seen more : List E) → events_by caller c (seen ++ more) ≡ events_by caller c seen → events_by caller c more ≡ []
none_between caller c seen more h = append_same (events_by caller c seen) (events_by caller c more) (sym (events_by-append caller c seen more) ∙ h)

module _ {B E : Type 0} (caller : E → ℕ) where
  -- what the one seat knows is so, and then it has seen all
  pub knows_one : (G : B → List E → Type 0) (o : Bool) (ks ls : List (Knowledge B E)) (k : Knowledge B E) → ks ≡ k ∷ [] → ((b : B) × (log : List E) × G b log × AllSo caller b log o ks × (ls ≡ map (sees log o) ks))
      → (log : List E) × G k.start log × IsSo caller k.start log o k × (ls ≡ sees log o k ∷ [])
  knows_one G o ks ls k is all =
      let so : IsSo caller all.0 all.1 o k = (subst (AllSo caller all.0 all.1 o) is all.3).0 in
      (all.1, subst (λ b. G b all.1) (sym so.began) all.2, subst (λ b. IsSo caller b all.1 o k) (sym so.began) so, all.4 ∙ ap (map (sees all.1 o)) is)

  -- a seat that knows of the end stays as it is
  pub ends_same : (log : List E) (o p : Bool) (k : Knowledge B E) → IsSo caller k.start log o k → p ≡ true → k.ended ≡ true → hears p (sees log o k) ≡ k
  ends_same log o p k so now e = λ i. record { caller = k.caller; start = k.start; seen = sym (so.over e).1 i; own = k.own; ended = (now ∙ sym e) i }

  pub follows_same : (log : List E) (o p : Bool) (k : Knowledge B E) → IsSo caller k.start log o k → (o ≡ true → p ≡ true) → Follows k (hears p (sees log o k))
  follows_same log o p k so rises = record { caller = refl; start = refl; seen = so.begins; lasts = λ e. ends_same log o p k so (rises (so.over e).0) e }

  pub follows_more : (log : List E) (x : E) (o p : Bool) (k : Knowledge B E) → IsSo caller k.start log o k → o ≡ false → Follows k (hears p (adds x (sees log o k)))
  follows_more log x o p k so lasts = record { caller = refl; start = refl; seen = begins_more k.seen log (x ∷ []) so.begins; lasts = λ e. absurd (true≢false (sym (so.over e).0 ∙ lasts)) }

  pub has_run : (event_of : E → ℕ) (log : List E) (x : E) (event place : ℕ) (o p : Bool) (k : Knowledge B E) → IsSo caller k.start log o k → event_of x ≡ event → place ≡ length log
      → HasRun event_of k (hears p (adds x (sees log o k))) event place
  has_run event_of log x event place o p k so number counts = record { before = log; entry = x; knew = so.begins; counts = counts; number = number; seen = refl; own = refl }

  module _ {P : Type 0} (parted : ℕ → P → B → List E → Type 0) (leaves : (by : ℕ) (e : E) (p : P) (b : B) (log : List E) → ¬ (caller e ≡ by) → parted by p b log → parted by p b (log ++ e ∷ [])) where
    goes_on : (c : ℕ) (p : P) (b : B) (more seen : List E) → events_by caller c more ≡ [] → parted c p b seen → parted c p b (seen ++ more)
    goes_on c p b [] seen none h = subst (parted c p b) (sym (append_nil seen)) h
    goes_on c p b (e ∷ es) seen none h =
        dite (ℕ_discrete (caller e) c)
        (λ same. let taken : e ∷ events_by caller c es ≡ [] = sym (ap (λ t. put_if t e (events_by caller c es)) (eq-eqb (caller e) c same)) ∙ none in let l = ap length taken in absurd (omega arith))
        (λ other. subst (parted c p b) (append_assoc seen (e ∷ []) es) (goes_on c p b es (seen ++ e ∷ []) (sym (ap (λ t. put_if t e (events_by caller c es)) (ne_eqb (caller e) c other)) ∙ none) (leaves c e p b seen other h)))

    -- the part after what was seen is the part after what is seen now
    pub reaches : (log : List E) (o : Bool) (k : Knowledge B E) (p : P) → IsSo caller k.start log o k → parted k.caller p k.start k.seen → parted k.caller p k.start log
    reaches log o k p so h =
        let more = so.begins.0 in
        let none = none_between caller k.caller k.seen more (ap (events_by caller k.caller) (sym so.begins.1) ∙ (so.has ∙ sym so.had)) in
        subst (parted k.caller p k.start) (sym so.begins.1) (goes_on k.caller p k.start more k.seen none h)
