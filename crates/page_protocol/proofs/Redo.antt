-- The redo leads to the last version.
use Rattle.std.proofs.Common.{◌≡◌, ℕ, ◌≤◌, refl, sym, ap, ◌∙◌, subst, arith, Bool, List, [], ◌∷◌, ◌++◌, inl, inr}
use Rattle.std.specs.Prelude.{filter, nat_lt}
use Rattle.std.proofs.lemmas.Bool.{cond-true, cond-false, lt-ltb, le-ltb, cases_Bool, cases_lt}
use Rattle.page_protocol.specs.Redo.{Change, Bytes, Patch, apply, page_after, redone, AreBelow, Rise, is_of, AreOf, zeros, OwnLogSuffices, MergedLogsSuffice, RedoneOnce}

-- ---- the page
page_after_append : (t : Patch) (b : Bytes) (xs ys : List Change) → page_after t b (xs ++ ys) ≡ page_after t (page_after t b xs) ys
page_after_append t b [] ys = refl
page_after_append t b (c ∷ xs) ys = page_after_append t (apply t b c) xs ys

rise_back : (t : Patch) (n : ℕ) (b : Bytes) (xs ys : List Change) → b.lrsn ≡ n → Rise n (xs ++ ys) → Rise (page_after t b xs).lrsn ys
rise_back t n b [] ys e h = rw e h
rise_back t n b (c ∷ xs) ys e h = rise_back t c.lrsn (apply t b c) xs ys refl h.1

grows : (t : Patch) (n : ℕ) (b : Bytes) (xs ys : List Change) → b.lrsn ≡ n → Rise n (xs ++ ys) → n ≤ (page_after t b xs).lrsn
grows t n b [] ys e h = omega arith
grows t n b (c ∷ xs) ys e h = let ih = grows t c.lrsn (apply t b c) xs ys refl h.1 in omega (arith, ih, h.0)

below_front : (t : Patch) (n : ℕ) (b : Bytes) (xs ys : List Change) → b.lrsn ≡ n → Rise n (xs ++ ys) → AreBelow (page_after t b xs).lrsn xs
below_front t n b [] ys e h = tt
below_front t n b (c ∷ xs) ys e h = (grows t c.lrsn (apply t b c) xs ys refl h.1, below_front t c.lrsn (apply t b c) xs ys refl h.1)

below_back : (n : ℕ) (xs ys : List Change) → AreBelow n (xs ++ ys) → AreBelow n ys
below_back n [] ys h = h
below_back n (c ∷ xs) ys h = below_back n xs ys h.1

-- ---- redo
redo_passes : (t : Patch) (b : Bytes) (xs ys : List Change) → AreBelow b.lrsn xs → redone t b (xs ++ ys) ≡ redone t b ys
redo_passes t b [] ys h = refl
redo_passes t b (c ∷ xs) ys h = cond-false (nat_lt b.lrsn c.lrsn) _ _ (le-ltb b.lrsn c.lrsn h.0) ∙ redo_passes t b xs ys h.1

redo_nothing : (t : Patch) (b : Bytes) (xs : List Change) → AreBelow b.lrsn xs → redone t b xs ≡ b
redo_nothing t b [] h = refl
redo_nothing t b (c ∷ xs) h = cond-false (nat_lt b.lrsn c.lrsn) _ _ (le-ltb b.lrsn c.lrsn h.0) ∙ redo_nothing t b xs h.1

redo_takes : (t : Patch) (b : Bytes) (ys : List Change) → Rise b.lrsn ys → redone t b ys ≡ page_after t b ys
redo_takes t b [] h = refl
redo_takes t b (c ∷ ys) h = cond-true (nat_lt b.lrsn c.lrsn) _ _ (lt-ltb b.lrsn c.lrsn h.0) ∙ redo_takes t (apply t b c) ys h.1

-- ---- a member's records
filter_append : (p : Change → Bool) (xs ys : List Change) → filter p (xs ++ ys) ≡ filter p xs ++ filter p ys
filter_append p [] ys = refl
filter_append p (c ∷ xs) ys = let ih = filter_append p xs ys in elim (cases_Bool (p c)) [ inl e ↦ rw (e, ih) | inr e ↦ rw (e, ih) ]

filter_all : (m : ℕ) (ys : List Change) → AreOf m ys → filter (is_of m) ys ≡ ys
filter_all m [] h = refl
filter_all m (c ∷ ys) h = rw (h.0, filter_all m ys h.1)

below_filter : (n : ℕ) (p : Change → Bool) (xs : List Change) → AreBelow n xs → AreBelow n (filter p xs)
below_filter n p [] h = tt
below_filter n p (c ∷ xs) h = elim (cases_Bool (p c)) [ inl e ↦ rw e (h.0, below_filter n p xs h.1) | inr e ↦ rw e (below_filter n p xs h.1) ]

pub own : OwnLogSuffices
own t older newer m rise of =
    let b = page_after t zeros older in
    ap (redone t b) (filter_append (is_of m) older newer ∙ ap (λ ys. filter (is_of m) older ++ ys) (filter_all m newer of))
    ∙ redo_passes t b (filter (is_of m) older) newer (below_filter _ (is_of m) older (below_front t 0 zeros older newer refl rise))
    ∙ redo_takes t b newer (rise_back t 0 zeros older newer refl rise)
    ∙ sym (page_after_append t zeros older newer)

pub merged : MergedLogsSuffice
merged t before older newer rise =
    let b = page_after t zeros (before ++ older) in
    redo_passes t b older newer (below_back _ before older (below_front t 0 zeros (before ++ older) newer refl rise))
    ∙ redo_takes t b newer (rise_back t 0 zeros (before ++ older) newer refl rise)
    ∙ sym (page_after_append t zeros (before ++ older) newer)

-- ---- redo twice
page_grows : (t : Patch) (b : Bytes) (xs : List Change) → b.lrsn ≤ (redone t b xs).lrsn
page_grows t b [] = omega arith
page_grows t b (c ∷ xs) = elim (cases_lt b.lrsn c.lrsn) [
  | inl lt ↦ let ih = page_grows t (apply t b c) xs in subst (λ (x : Bytes). b.lrsn ≤ x.lrsn) (sym (cond-true (nat_lt b.lrsn c.lrsn) _ _ (lt-ltb b.lrsn c.lrsn lt))) (omega (arith, ih, lt))
  | inr ge ↦ subst (λ (x : Bytes). b.lrsn ≤ x.lrsn) (sym (cond-false (nat_lt b.lrsn c.lrsn) _ _ (le-ltb b.lrsn c.lrsn ge))) (page_grows t b xs)
]

all_below : (t : Patch) (b : Bytes) (xs : List Change) → AreBelow (redone t b xs).lrsn xs
all_below t b [] = tt
all_below t b (c ∷ xs) = elim (cases_lt b.lrsn c.lrsn) [
  | inl lt ↦ subst (λ (x : Bytes). AreBelow x.lrsn (c ∷ xs)) (sym (cond-true (nat_lt b.lrsn c.lrsn) _ _ (lt-ltb b.lrsn c.lrsn lt))) (page_grows t (apply t b c) xs, all_below t (apply t b c) xs)
  | inr ge ↦ subst (λ (x : Bytes). AreBelow x.lrsn (c ∷ xs)) (sym (cond-false (nat_lt b.lrsn c.lrsn) _ _ (le-ltb b.lrsn c.lrsn ge))) (let g = page_grows t b xs in omega (arith, ge, g), all_below t b xs)
]

pub once : RedoneOnce
once t b records = redo_nothing t (redone t b records) records (all_below t b records)
