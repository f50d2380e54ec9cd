-- The places of records in their logs.
use Rattle.std.proofs.Common.{◌≡◌, ℕ, zero, suc, ◌+◌, ◌-◌, ◌<◌, ◌≤◌, Bool, true, false, cond, List, [], ◌∷◌, ◌++◌, length, take, refl, sym, ap, ◌∙◌, subst, arith, inl, inr}
use Rattle.std.specs.Prelude.{filter, map, nat_le, nat_lt, ◌&&◌, ◌==◌}
use Rattle.std.proofs.lemmas.Bool.{cases_Bool, cases_lt, cond-true, cond-false, lt-ltb, le-ltb, le-leb, lt-leb, eqb-true, and_from, and_left, and_right}
use Rattle.std.proofs.lemmas.List.{take_at, length-append}
use Rattle.std.proofs.lemmas.List.Elements.{filter-append}
use Rattle.log_tells.specs.Told.{Told, records_of, is_of, is_between, Fill, part_of}
use Rattle.log_tells.specs.Keeps.{is_within}
use Rattle.log_tells.proofs.Lists.{filter-swap, filter-within, filter-both}

-- ---- which records stand between two places

pub between : (from to : ℕ) (t : Told) → from ≤ t.place → t.place < to → is_between from to t ≡ true
between from to t low high = and_from (nat_le from t.place) (nat_lt t.place to) (le-leb from t.place low) (lt-ltb t.place to high)

pub before : (from to : ℕ) (t : Told) → t.place < from → is_between from to t ≡ false
before from to t lt = and_left (nat_le from t.place) (nat_lt t.place to) (lt-leb from t.place lt)

pub behind : (from to : ℕ) (t : Told) → to ≤ t.place → is_between from to t ≡ false
behind from to t le = and_right (nat_le from t.place) (nat_lt t.place to) (le-ltb t.place to le)

keeps : (p : Told → Bool) (t : Told) (ts : List Told) → p t ≡ true → filter p (t ∷ ts) ≡ t ∷ filter p ts
keeps p t ts e = cond-true (p t) (t ∷ filter p ts) (filter p ts) e

drops : (p : Told → Bool) (t : Told) (ts : List Told) → p t ≡ false → filter p (t ∷ ts) ≡ filter p ts
drops p t ts e = cond-false (p t) (t ∷ filter p ts) (filter p ts) e

-- ---- places one behind the other

pub fill_more : (from to : ℕ) (ts : List Told) (t : Told) → Fill from to ts → t.place ≡ to → Fill from (to + 1) (ts ++ t ∷ [])
fill_more from to [] t h e = (e ∙ sym h, ap (λ x. x + 1) h)
fill_more from to (u ∷ us) t h e = (h.0, fill_more (from + 1) to us t h.1 e)

pub fill_up : (from to : ℕ) (ts : List Told) → Fill from to ts → from + length ts ≡ to
fill_up from to [] h = omega (arith, h)
fill_up from to (t ∷ ts) h = let ih = fill_up (from + 1) to ts h.1 in omega (arith, ih)

-- none stands before the first
pub fill_none : (from to a b : ℕ) (ts : List Told) → Fill from to ts → b ≤ from → filter (is_between a b) ts ≡ []
fill_none from to a b [] h le = refl
fill_none from to a b (t ∷ ts) h le =
    let at = h.0 in
    drops (is_between a b) t ts (behind a b t (omega (arith, at, le))) ∙ fill_none (from + 1) to a b ts h.1 (omega (arith, le))

-- so many from a place on are the first ones
pub fill_take : (from to a k : ℕ) (ts : List Told) → Fill from to ts → a ≤ from → filter (is_between a (from + k)) ts ≡ take k ts
fill_take from to a zero [] h le = refl
fill_take from to a (suc k) [] h le = refl
fill_take from to a zero (t ∷ ts) h le = fill_none from to a (from + 0) (t ∷ ts) h (omega arith)
fill_take from to a (suc k) (t ∷ ts) h le =
    let at = h.0 in
    let e : from + suc k ≡ (from + 1) + k = omega arith in
    keeps (is_between a (from + suc k)) t ts (between a (from + suc k) t (omega (arith, at, le)) (omega (arith, at)))
    ∙ ap (λ (us : List Told). t ∷ us) (ap (λ x. filter (is_between a x) ts) e ∙ fill_take (from + 1) to a k ts h.1 (omega (arith, le)))

-- and all of them where these are enough
pub fill_all : (from to a b : ℕ) (ts : List Told) → Fill from to ts → a ≤ from → to ≤ b → filter (is_between a b) ts ≡ ts
fill_all from to a b [] h low high = refl
fill_all from to a b (t ∷ ts) h low high =
    let at = h.0 in
    let up = fill_up (from + 1) to ts h.1 in
    keeps (is_between a b) t ts (between a b t (omega (arith, at, low)) (omega (arith, at, up, high))) ∙ ap (λ (us : List Told). t ∷ us) (fill_all (from + 1) to a b ts h.1 (omega (arith, low)) high)

-- those up to a place, and then those up to a later one
pub fill_join : (from to a b c : ℕ) (ts : List Told) → Fill from to ts → a ≤ b → b ≤ c → filter (is_between a b) ts ++ filter (is_between b c) ts ≡ filter (is_between a c) ts
fill_join from to a b c [] h low high = refl
fill_join from to a b c (t ∷ ts) h low high = let rest = fill_join (from + 1) to a b c ts h.1 low high in elim (cases_lt from b) [ inl lt ↦ first rest lt | inr ge ↦ second rest ge ]
  where
    Rest : Type 0
    Rest = filter (is_between a b) ts ++ filter (is_between b c) ts ≡ filter (is_between a c) ts

    ends : from < b → b ≤ c → t.place ≡ from → t.place < c
    ends lt le at = omega (arith, lt, le, at)

    first : Rest → from < b → filter (is_between a b) (t ∷ ts) ++ filter (is_between b c) (t ∷ ts) ≡ filter (is_between a c) (t ∷ ts)
    first rest lt = let at = h.0 in elim (cases_lt from a) [
      | inl less ↦
          ap (λ us. us ++ filter (is_between b c) (t ∷ ts)) (drops (is_between a b) t ts (before a b t (omega (arith, at, less))))
          ∙ ap (λ us. filter (is_between a b) ts ++ us) (drops (is_between b c) t ts (before b c t (omega (arith, at, lt))))
          ∙ rest ∙ sym (drops (is_between a c) t ts (before a c t (omega (arith, at, less))))
      | inr more ↦
          ap (λ us. us ++ filter (is_between b c) (t ∷ ts)) (keeps (is_between a b) t ts (between a b t (omega (arith, at, more)) (omega (arith, at, lt))))
          ∙ ap (λ us. t ∷ filter (is_between a b) ts ++ us) (drops (is_between b c) t ts (before b c t (omega (arith, at, lt))))
          ∙ ap (λ (us : List Told). t ∷ us) rest ∙ sym (keeps (is_between a c) t ts (between a c t (omega (arith, at, more)) (ends lt high at)))
    ]

    same : (x y : Bool) → x ≡ y → cond x (t ∷ filter (is_between b c) ts) (filter (is_between b c) ts) ≡ cond y (t ∷ filter (is_between b c) ts) (filter (is_between b c) ts)
    same x y e = ap (λ z. cond z (t ∷ filter (is_between b c) ts) (filter (is_between b c) ts)) e

    alike : b ≤ from → is_between b c t ≡ is_between a c t
    alike ge = let at = h.0 in
        ap (λ z. z && nat_lt t.place c) (le-leb b t.place (omega (arith, at, ge)) ∙ sym (le-leb a t.place (omega (arith, at, ge, low))))

    second : Rest → b ≤ from → filter (is_between a b) (t ∷ ts) ++ filter (is_between b c) (t ∷ ts) ≡ filter (is_between a c) (t ∷ ts)
    second rest ge =
        ap (λ us. us ++ filter (is_between b c) (t ∷ ts)) (fill_none from to a b (t ∷ ts) h ge)
        ∙ same (is_between b c t) (is_between a c t) (alike ge)
        ∙ ap (λ us. cond (is_between a c t) (t ∷ us) us) (ap (λ us. us ++ filter (is_between b c) ts) (sym (fill_none (from + 1) to a b ts h.1 (omega (arith, ge)))) ∙ rest)

-- what is left of a log that is cut
pub fill_cut : (from to top : ℕ) (ts : List Told) → Fill from to ts → from ≤ top → top ≤ to → Fill from top (filter (λ (t : Told). nat_lt t.place top) ts)
fill_cut from to top [] h low high = omega (arith, h, low, high)
fill_cut from to top (t ∷ ts) h low high = elim (cases_lt from top) [ inl lt ↦ goes lt (fill_cut (from + 1) to top ts h.1 (omega (arith, lt)) high) | inr ge ↦ stops ge ]
  where
    test : Told → Bool
    test u = nat_lt u.place top

    goes : from < top → Fill (from + 1) top (filter test ts) → Fill from top (filter test (t ∷ ts))
    goes lt rest = let at = h.0 in subst (Fill from top) (sym (keeps test t ts (lt-ltb t.place top (omega (arith, at, lt))))) (at, rest)

    none : (low : ℕ) (us : List Told) → Fill low to us → top ≤ low → filter test us ≡ []
    none low [] k le = refl
    none low (u ∷ us) k le = let at = k.0 in drops test u us (le-ltb u.place top (omega (arith, at, le))) ∙ none (low + 1) us k.1 (omega (arith, le))

    stops : top ≤ from → Fill from top (filter test (t ∷ ts))
    stops ge = subst (Fill from top) (sym (none from (t ∷ ts) h ge)) (omega (arith, low, ge))

-- ---- the log of one member among all

pub of_within : (lengths : ℕ → ℕ) (m : ℕ) (ts : List Told) → filter (is_of m) (filter (is_within lengths) ts) ≡ filter (λ (t : Told). nat_lt t.place (lengths m)) (filter (is_of m) ts)
of_within lengths m ts = filter-swap (is_of m) (is_within lengths) ts ∙ own ts
  where
    own : (us : List Told) → filter (is_within lengths) (filter (is_of m) us) ≡ filter (λ (t : Told). nat_lt t.place (lengths m)) (filter (is_of m) us)
    own [] = refl
    own (u ∷ us) = elim (cases_Bool (is_of m u)) [
      | inl e ↦ rw (keeps (is_of m) u us e) (ap (λ k. cond (nat_lt u.place (lengths k)) (u ∷ filter (is_within lengths) (filter (is_of m) us)) (filter (is_within lengths) (filter (is_of m) us))) (eqb-true u.member m e)
          ∙ ap (λ vs. cond (nat_lt u.place (lengths m)) (u ∷ vs) vs) (own us))
      | inr e ↦ rw (drops (is_of m) u us e) (own us)
    ]

-- ---- parts

pub part_is : (m from to : ℕ) (ts : List Told) → part_of m from to ts ≡ records_of (filter (is_between from to) (filter (is_of m) ts))
part_is m from to ts = ap records_of (filter-both (is_of m) (is_between from to) ts)
