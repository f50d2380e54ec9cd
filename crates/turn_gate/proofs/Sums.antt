-- Sums over lists that change at one place, and the events of one caller.
use Rattle.std.proofs.Common.{◌≡◌, ℕ, zero, suc, ◌+◌, ◌≤◌, ◌≢◌, List, [], ◌∷◌, ◌++◌, length, set, get_or, drop, sym, refl, ap, ◌∙◌, arith, eqb, eq-eqb, ne_eqb, Bool, true, false, true≢false}
use mathlib.Core.Option.{some, some-injective, some-ne-none}
use lib.ListN.{get_elem?}
use Rattle.turn_gate.specs.Lists.{total, when, only, put_if, events_by, Begins, first_of, others_of}

pub append_nil : {A : Type 0} → (l : List A) → l ++ [] ≡ l
append_nil [] = refl
append_nil (x ∷ xs) = ap (λ l. x ∷ l) (append_nil xs)

pub append_assoc : {A : Type 0} → (l m n : List A) → (l ++ m) ++ n ≡ l ++ (m ++ n)
append_assoc [] m n = refl
append_assoc (x ∷ xs) m n = ap (λ l. x ∷ l) (append_assoc xs m n)

pub only_same : (k : ℕ) → only k k ≡ 1
only_same k = ap (λ b. when b 1) (eq-eqb k k refl)

pub only_else : (k j : ℕ) → ¬ (j ≡ k) → only k j ≡ 0
only_else k j n = ap (λ b. when b 1) (ne_eqb j k n)

module _ {A : Type 0} where
  module _ (g : A → ℕ) where
    pub total-append : (l m : List A) → total g (l ++ m) ≡ total g l + total g m
    total-append [] m = omega arith
    total-append (x ∷ xs) m = omega (arith, total-append xs m)

    pub total-set : (l : List A) (j : ℕ) (v w : A) → get_elem? l j ≡ some v → total g (set l j w) + g v ≡ total g l + g w
    total-set [] j v w e = absurd (some-ne-none v (sym e))
    total-set (x ∷ xs) zero v w e = omega (arith, ap g (some-injective x v e))
    total-set (x ∷ xs) (suc j) v w e = omega (arith, total-set xs j v w e)

    pub total_same : (l : List A) (j : ℕ) (v w : A) → get_elem? l j ≡ some v → g w ≡ g v → total g (set l j w) ≡ total g l
    total_same l j v w e same = omega (arith, total-set l j v w e)

    pub term_le : (l : List A) (j : ℕ) (v : A) → get_elem? l j ≡ some v → g v ≤ total g l
    term_le [] j v e = absurd (some-ne-none v (sym e))
    term_le (x ∷ xs) zero v e = omega (arith, ap g (some-injective x v e))
    term_le (x ∷ xs) (suc j) v e = omega (arith, term_le xs j v e)

    pub terms_le : (l : List A) (j k : ℕ) (v u : A) → k ≢ j → get_elem? l j ≡ some v → get_elem? l k ≡ some u → g v + g u ≤ total g l
    terms_le [] j k v u n e d = absurd (some-ne-none v (sym e))
    terms_le (x ∷ xs) zero zero v u n e d = absurd (n refl)
    terms_le (x ∷ xs) zero (suc k) v u n e d = omega (arith, ap g (some-injective x v e), term_le xs k u d)
    terms_le (x ∷ xs) (suc j) zero v u n e d = omega (arith, ap g (some-injective x u d), term_le xs j v e)
    terms_le (x ∷ xs) (suc j) (suc k) v u n e d = omega (arith, terms_le xs j k v u (λ h. n (ap suc h)) e d)

    pub total_none : (l : List A) → ((j : ℕ) (v : A) → get_elem? l j ≡ some v → g v ≡ 0) → total g l ≡ 0
    total_none [] h = refl
    total_none (x ∷ xs) h = let a = h 0 x refl in omega (arith, total_none xs (λ j v e. h (suc j) v e))

  pub total_le : (f g : A → ℕ) (l : List A) → ((j : ℕ) (v : A) → get_elem? l j ≡ some v → f v ≤ g v) → total f l ≤ total g l
  total_le f g [] h = omega arith
  total_le f g (x ∷ xs) h = let a = h 0 x refl in omega (arith, total_le f g xs (λ j v e. h (suc j) v e))

-- the last of a list
pub last_same : {A : Type 0} (l : List A) (a b : A) → l ++ a ∷ [] ≡ l ++ b ∷ [] → a ≡ b
last_same [] a b h = ap (λ m. get_or m 0 a) h
last_same (x ∷ xs) a b h = last_same xs a b (ap (drop 1) h)

pub first_others : {A : Type 0} (g : A → ℕ) (l : List A) → total g (first_of l) + total g (others_of l) ≡ total g l
first_others g [] = refl
first_others g (x ∷ xs) = omega arith

pub length_first_others : {A : Type 0} (l : List A) → length (first_of l) + length (others_of l) ≡ length l
length_first_others [] = refl
length_first_others (x ∷ xs) = omega arith

pub when_le : (a b : Bool) → (a ≡ true → b ≡ true) → when a 1 ≤ when b 1
when_le true true h = omega arith
when_le true false h = absurd (true≢false (sym (h refl)))
when_le false true h = omega arith
when_le false false h = omega arith

-- what a list begins with, a longer one begins with too
pub begins_more : {A : Type 0} (xs ys zs : List A) → Begins xs ys → Begins xs (ys ++ zs)
begins_more xs ys zs b = (b.0 ++ zs, ap (λ l. l ++ zs) b.1 ∙ append_assoc xs b.0 zs)

pub begins_whole : {A : Type 0} (xs ys : List A) → xs ≡ ys → Begins xs ys
begins_whole xs ys same = ([], sym same ∙ sym (append_nil xs))

module _ {E : Type 0} (caller : E → ℕ) where
  pub events_by-append : (c : ℕ) (l m : List E) → events_by caller c (l ++ m) ≡ events_by caller c l ++ events_by caller c m
  events_by-append c [] m = refl
  events_by-append c (e ∷ es) m = put_more (eqb (caller e) c) (events_by-append c es m)
    where
      put_more : (b : Bool) → events_by caller c (es ++ m) ≡ events_by caller c es ++ events_by caller c m → put_if b e (events_by caller c (es ++ m)) ≡ put_if b e (events_by caller c es) ++ events_by caller c m
      put_more true h = ap (λ l. e ∷ l) h
      put_more false h = h

  -- an event of c
  pub events_by_one : (c : ℕ) (e : E) (l : List E) → caller e ≡ c → events_by caller c (l ++ e ∷ []) ≡ events_by caller c l ++ e ∷ []
  events_by_one c e l h = events_by-append c l (e ∷ []) ∙ ap (λ b. events_by caller c l ++ put_if b e []) (eq-eqb (caller e) c h)

  pub events_by_else : (c : ℕ) (e : E) (l : List E) → ¬ (caller e ≡ c) → events_by caller c (l ++ e ∷ []) ≡ events_by caller c l
  events_by_else c e l h = events_by-append c l (e ∷ []) ∙ (ap (λ b. events_by caller c l ++ put_if b e []) (ne_eqb (caller e) c h) ∙ append_nil (events_by caller c l))
