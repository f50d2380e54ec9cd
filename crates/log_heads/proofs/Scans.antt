-- Looks at one log after the other.
use Rattle.std.proofs.Common.{◌≡◌, ℕ, zero, suc, ◌+◌, ◌<◌, ◌≤◌, List, [], ◌∷◌, ◌++◌, length, get_or, drop, Option, Some, None, refl, sym, ap, subst, ◌∙◌, arith, append_assoc}
use Rattle.std.proofs.lemmas.List.{drop_all}
use Rattle.log_head.specs.Heads.{HeadState, standing_of, number_of}
use Rattle.log_heads.specs.declared.taken.Taken.{Taken}
use Rattle.log_heads.specs.Heads.{or_else, stop_of, first_stop, least_of_two, least_from, heads_of, AreStarts}

-- the list from a place on
pub drop_at : {X : Type 0} (xs : List X) (k : ℕ) (x : X) → k < length xs → x ≡ get_or xs k x → drop k xs ≡ x ∷ drop (k + 1) xs
drop_at [] k x lt e = absurd (omega (arith, lt))
drop_at {X} (y ∷ ys) zero x lt e = ap (λ (z : X). z ∷ ys) (sym e)
drop_at {X} (y ∷ ys) (suc k) x lt e =
    let same : suc k + 1 ≡ suc (k + 1) = omega arith in
    drop_at ys k x (omega (arith, lt)) e ∙ ap (λ (t : List X). x ∷ t) (sym (ap (λ (j : ℕ). drop j (y ∷ ys)) same))

-- ---- the first log that can't go on

pub stop_here : (block k : ℕ) (heads : List HeadState) (h : HeadState) (stop : Taken) → k < length heads → h ≡ get_or heads k h → Some stop ≡ stop_of (k + 1) h.end (standing_of block h)
    → first_stop block (k + 1) (drop k heads) ≡ Some stop
stop_here block k heads h stop lt e is =
    ap (first_stop block (k + 1)) (drop_at heads k h lt e) ∙ ap (λ (o : Option Taken). or_else o (first_stop block (k + 1 + 1) (drop (k + 1) heads))) (sym is)

pub stop_behind : (block k : ℕ) (heads : List HeadState) (h : HeadState) → k < length heads → h ≡ get_or heads k h → None ≡ stop_of (k + 1) h.end (standing_of block h)
    → first_stop block (k + 1 + 1) (drop (k + 1) heads) ≡ first_stop block (k + 1) (drop k heads)
stop_behind block k heads h lt e is =
    sym (ap (first_stop block (k + 1)) (drop_at heads k h lt e) ∙ ap (λ (o : Option Taken). or_else o (first_stop block (k + 1 + 1) (drop (k + 1) heads))) (sym is))

none_left : (block m k : ℕ) (heads : List HeadState) → length heads ≤ k → first_stop block m (drop k heads) ≡ None
none_left block m k heads le = ap (first_stop block m) (drop_all k heads le)

pub stop_none : (block m k : ℕ) (heads : List HeadState) (o : Option Taken) → length heads ≤ k → first_stop block m (drop k heads) ≡ o → o ≡ None
stop_none block m k heads o le e = sym e ∙ none_left block m k heads le

-- ---- the least number

pub least_here : (k : ℕ) (heads : List HeadState) (h : HeadState) → k < length heads → h ≡ get_or heads k h → least_of_two k (number_of h) (least_from (k + 1) (drop (k + 1) heads)) ≡ least_from k (drop k heads)
least_here k heads h lt e = sym (ap (least_from k) (drop_at heads k h lt e))

pub least_none : (k : ℕ) (heads : List HeadState) → length heads ≤ k → least_from k (drop k heads) ≡ None
least_none k heads le = ap (least_from k) (drop_all k heads le)

-- ---- new heads

abbrev new_head : ℕ → ℕ → HeadState
new_head start end = record { at = start; hand = []; end = end }

pub heads_at : (starts lengths : List ℕ) (k : ℕ) → k < length starts → k < length lengths → heads_of (drop k starts) (drop k lengths) ≡ new_head (get_or starts k 0) (get_or lengths k 0) ∷ heads_of (drop (k + 1) starts) (drop (k + 1) lengths)
heads_at starts lengths k p q = ap (λ (ss : List ℕ). heads_of ss (drop k lengths)) (number_at starts k p) ∙ ap (heads_of (get_or starts k 0 ∷ drop (k + 1) starts)) (number_at lengths k q)
  where
    number_at : (xs : List ℕ) (k : ℕ) → k < length xs → drop k xs ≡ get_or xs k 0 ∷ drop (k + 1) xs
    number_at [] k lt = absurd (omega (arith, lt))
    number_at (x ∷ xs) zero lt = refl
    number_at (x ∷ xs) (suc k) lt =
        let same : suc k + 1 ≡ suc (k + 1) = omega arith in
        number_at xs k (omega (arith, lt)) ∙ ap (λ (t : List ℕ). get_or xs k 0 ∷ t) (sym (ap (λ (j : ℕ). drop j (x ∷ xs)) same))

pub starts_at : (starts lengths : List ℕ) (k : ℕ) → k < length starts → k < length lengths → AreStarts (drop k starts) (drop k lengths) → (get_or starts k 0 ≤ get_or lengths k 0) × AreStarts (drop (k + 1) starts) (drop (k + 1) lengths)
starts_at [] lengths k p q are = absurd (omega (arith, p))
starts_at (s ∷ ss) [] k p q are = absurd (omega (arith, q))
starts_at (s ∷ ss) (l ∷ ls) zero p q are = are
starts_at (s ∷ ss) (l ∷ ls) (suc k) p q are =
    let same : suc (k + 1) ≡ suc k + 1 = omega arith in
    let it = starts_at ss ls k (omega (arith, p)) (omega (arith, q)) are in
    (it.0, subst (λ (j : ℕ). AreStarts (drop j (s ∷ ss)) (drop j (l ∷ ls))) same it.1)

pub heads_more : (starts lengths : List ℕ) (k : ℕ) (done all : List HeadState) → k < length starts → k < length lengths → done ++ heads_of (drop k starts) (drop k lengths) ≡ all
    → (done ++ new_head (get_or starts k 0) (get_or lengths k 0) ∷ []) ++ heads_of (drop (k + 1) starts) (drop (k + 1) lengths) ≡ all
heads_more starts lengths k done all p q e =
    append_assoc done (new_head (get_or starts k 0) (get_or lengths k 0) ∷ []) (heads_of (drop (k + 1) starts) (drop (k + 1) lengths))
    ∙ ap (λ (hs : List HeadState). done ++ hs) (sym (heads_at starts lengths k p q)) ∙ e
