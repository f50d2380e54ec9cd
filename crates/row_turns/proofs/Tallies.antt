-- How many elements of a list pass a test.
use Rattle.std.proofs.Common.{◌≡◌, ℕ, zero, suc, ◌+◌, ◌≤◌, Bool, true, false, cond, List, [], ◌∷◌, ◌++◌, length, refl, sym, ap, ◌∙◌, arith}
use Rattle.std.specs.Prelude.{not, ◌&&◌, ◌||◌, filter}
use Rattle.std.specs.List.{list_any, list_all}
use Rattle.std.proofs.lemmas.List.Elements.{filter_agree}

-- ---- tests

pub and_left : (a b : Bool) → (a && b) ≡ true → a ≡ true
and_left true b h = refl
and_left false b h = h

pub and_right : (a b : Bool) → (a && b) ≡ true → b ≡ true
and_right true b h = h
and_right false b h = absurd cc

pub and_both : (a b : Bool) → a ≡ true → b ≡ true → (a && b) ≡ true
and_both true b h k = k
and_both false b h k = h

pub or_false : (a : Bool) → (a || false) ≡ a
or_false true = refl
or_false false = refl

pub or_left : (a b : Bool) → a ≡ true → (a || b) ≡ true
or_left true b h = refl
or_left false b h = absurd cc

pub or_right : (a b : Bool) → b ≡ true → (a || b) ≡ true
or_right true b h = refl
or_right false b h = h

pub not_true : (a : Bool) → not a ≡ true → a ≡ false
not_true true h = absurd cc
not_true false h = refl

pub by_bool : (b : Bool) (P : Type 0) → (b ≡ true → P) → (b ≡ false → P) → P
by_bool true P f g = f refl
by_bool false P f g = g refl

pub clash : (b : Bool) → b ≡ true → b ≡ false → ⊥
clash true h k = absurd cc
clash false h k = absurd cc

pub not_if : (b : Bool) → (b ≡ true → ⊥) → b ≡ false
not_if true h = absurd (h refl)
not_if false h = refl

or_join : (a b c : Bool) → (a || (b || c)) ≡ ((a || b) || c)
or_join true b c = refl
or_join false b c = refl

and_join : (a b c : Bool) → (a && (b && c)) ≡ ((a && b) && c)
and_join true b c = refl
and_join false b c = refl

and_true : (a : Bool) → (a && true) ≡ a
and_true true = refl
and_true false = refl

or_none_left : (a b : Bool) → (a || b) ≡ false → a ≡ false
or_none_left true b h = h
or_none_left false b h = refl

or_none_right : (a b : Bool) → (a || b) ≡ false → b ≡ false
or_none_right true b h = absurd (clash true refl h)
or_none_right false b h = h

module _ {X : Type 0} where
  -- ---- one more

  any_end : (f : X → Bool) (xs : List X) (x : X) → list_any f (xs ++ x ∷ []) ≡ (list_any f xs || f x)
  any_end f [] x = or_false (f x)
  any_end f (y ∷ xs) x = ap (λ (b : Bool). f y || b) (any_end f xs x) ∙ or_join (f y) (list_any f xs) (f x)

  all_end : (f : X → Bool) (xs : List X) (x : X) → list_all f (xs ++ x ∷ []) ≡ (list_all f xs && f x)
  all_end f [] x = and_true (f x)
  all_end f (y ∷ xs) x = ap (λ (b : Bool). f y && b) (all_end f xs x) ∙ and_join (f y) (list_all f xs) (f x)

  one_more : (b : Bool) (x : X) → length (cond b (x ∷ []) []) ≡ 0 + cond b 1 0
  one_more true x = omega arith
  one_more false x = omega arith

  cons_count : (b : Bool) (y : X) (l m : List X) (n : ℕ) → length m ≡ length l + n → length (cond b (y ∷ m) m) ≡ length (cond b (y ∷ l) l) + n
  cons_count true y l m n h = omega (arith, h)
  cons_count false y l m n h = h

  pub count_end : (p : X → Bool) (xs : List X) (x : X) → length (filter p (xs ++ x ∷ [])) ≡ length (filter p xs) + cond (p x) 1 0
  count_end p [] x = one_more (p x) x
  count_end p (y ∷ xs) x = cons_count (p y) y (filter p xs) (filter p (xs ++ x ∷ [])) (cond (p x) 1 0) (count_end p xs x)

  pub count_both : (p : X → Bool) (xs ys : List X) → length (filter p (xs ++ ys)) ≡ length (filter p xs) + length (filter p ys)
  count_both p [] ys = omega arith
  count_both p (x ∷ xs) ys = cons_count (p x) x (filter p xs) (filter p (xs ++ ys)) (length (filter p ys)) (count_both p xs ys)

  cons_when : (b : Bool) (x : X) (l : List X) → length (cond b (x ∷ l) l) ≡ cond b 1 0 + length l
  cons_when true x l = omega arith
  cons_when false x l = omega arith

  pub count_cons : (p : X → Bool) (x : X) (xs : List X) → length (filter p (x ∷ xs)) ≡ cond (p x) 1 0 + length (filter p xs)
  count_cons p x xs = cons_when (p x) x (filter p xs)

  pub count_same : (p q : X → Bool) → ((x : X) → p x ≡ q x) → (xs : List X) → length (filter p xs) ≡ length (filter q xs)
  count_same p q h xs = ap length (filter_agree p q h xs)

  -- ---- two tests

  split_when : (a b : Bool) (x : X) (l m n : List X) → length l ≡ length m + length n → length (cond a (x ∷ l) l) ≡ length (cond (a && b) (x ∷ m) m) + length (cond (a && not b) (x ∷ n) n)
  split_when true true x l m n h = omega (arith, h)
  split_when true false x l m n h = omega (arith, h)
  split_when false b x l m n h = h

  pub count_split : (p q : X → Bool) (xs : List X) → length (filter p xs) ≡ length (filter (λ x. p x && q x) xs) + length (filter (λ x. p x && not (q x)) xs)
  count_split p q [] = omega arith
  count_split p q (x ∷ xs) = split_when (p x) (q x) x (filter p xs) (filter (λ y. p y && q y) xs) (filter (λ y. p y && not (q y)) xs) (count_split p q xs)

  most_when : (a b : Bool) (x : X) (l m : List X) → (a ≡ true → b ≡ true) → length l ≤ length m → length (cond a (x ∷ l) l) ≤ length (cond b (x ∷ m) m)
  most_when true true x l m f h = omega (arith, h)
  most_when true false x l m f h = absurd (clash false (f refl) refl)
  most_when false true x l m f h = omega (arith, h)
  most_when false false x l m f h = h

  pub count_most : (g p q : X → Bool) (xs : List X) → list_all g xs ≡ true → ((x : X) → g x ≡ true → p x ≡ true → q x ≡ true) → length (filter p xs) ≤ length (filter q xs)
  count_most g p q [] a h = omega arith
  count_most g p q (x ∷ xs) a h = most_when (p x) (q x) x (filter p xs) (filter q xs) (h x (and_left (g x) (list_all g xs) a)) (count_most g p q xs (and_right (g x) (list_all g xs) a) h)

  zero_when : (b : Bool) (x : X) (l : List X) → b ≡ false → length l ≡ 0 → length (cond b (x ∷ l) l) ≡ 0
  zero_when true x l e h = absurd (clash true refl e)
  zero_when false x l e h = h

  pub count_zero : (g p : X → Bool) (xs : List X) → list_all g xs ≡ true → ((x : X) → g x ≡ true → p x ≡ false) → length (filter p xs) ≡ 0
  count_zero g p [] a h = refl
  count_zero g p (x ∷ xs) a h = zero_when (p x) x (filter p xs) (h x (and_left (g x) (list_all g xs) a)) (count_zero g p xs (and_right (g x) (list_all g xs) a) h)

  pub count_none : (g p : X → Bool) (xs : List X) → list_any g xs ≡ false → ((x : X) → g x ≡ false → p x ≡ false) → length (filter p xs) ≡ 0
  count_none g p [] a h = refl
  count_none g p (x ∷ xs) a h = zero_when (p x) x (filter p xs) (h x (or_none_left (g x) (list_any g xs) a)) (count_none g p xs (or_none_right (g x) (list_any g xs) a) h)

  fails_when : (b rest : Bool) (x : X) (l : List X) → length (cond b (x ∷ l) l) ≡ 0 → (length l ≡ 0 → rest ≡ true) → (not b && rest) ≡ true
  fails_when true rest x l h k = absurd (omega (arith, h))
  fails_when false rest x l h k = k h

  pub all_fail : (p : X → Bool) (xs : List X) → length (filter p xs) ≡ 0 → list_all (λ x. not (p x)) xs ≡ true
  all_fail p [] h = refl
  all_fail p (x ∷ xs) h = fails_when (p x) (list_all (λ y. not (p y)) xs) x (filter p xs) h (all_fail p xs)

  -- ---- all

  pub all_less : (p q : X → Bool) (xs : List X) → list_all p xs ≡ true → ((x : X) → p x ≡ true → q x ≡ true) → list_all q xs ≡ true
  all_less p q [] a h = refl
  all_less p q (x ∷ xs) a h = and_both (q x) (list_all q xs) (h x (and_left (p x) (list_all p xs) a)) (all_less p q xs (and_right (p x) (list_all p xs) a) h)

  pub all_two : (p q : X → Bool) (xs : List X) → list_all p xs ≡ true → list_all q xs ≡ true → list_all (λ x. p x && q x) xs ≡ true
  all_two p q [] a b = refl
  all_two p q (x ∷ xs) a b =
      and_both (p x && q x) _ (and_both (p x) (q x) (and_left (p x) (list_all p xs) a) (and_left (q x) (list_all q xs) b)) (all_two p q xs (and_right (p x) (list_all p xs) a) (and_right (q x) (list_all q xs) b))

  pub none_all : (g q : X → Bool) (xs : List X) → list_any g xs ≡ false → ((x : X) → g x ≡ false → q x ≡ true) → list_all q xs ≡ true
  none_all g q [] a h = refl
  none_all g q (x ∷ xs) a h = and_both (q x) (list_all q xs) (h x (or_none_left (g x) (list_any g xs) a)) (none_all g q xs (or_none_right (g x) (list_any g xs) a) h)

  pub every : (xs : List X) → list_all (λ (x : X). true) xs ≡ true
  every [] = refl
  every (x ∷ xs) = every xs

pub any_push : {X : Type 0} (f : X → Bool) (xs : List X) (x : X) → list_any f (xs ++ x ∷ []) ≡ (list_any f xs || f x)
any_push f xs x = any_end f xs x

pub all_push : {X : Type 0} (f : X → Bool) (xs : List X) (x : X) → list_all f (xs ++ x ∷ []) ≡ (list_all f xs && f x)
all_push f xs x = all_end f xs x
