-- Lists in which those that pass come first.
use Rattle.std.proofs.Common.{◌≡◌, ℕ, Bool, true, false, cond, not, ◌||◌, List, [], ◌∷◌, ◌++◌, refl, sym, ap, subst, ◌∙◌, true≢false, arith, nat_eq}
use Rattle.std.specs.Prelude.{Some, None, find, slice_get, IfSome}
use Rattle.std.proofs.lemmas.Bool.{eqb-true}
use Rattle.std.specs.List.{list_all}
use Rattle.std.proofs.lemmas.Option.{none-some}
use Rattle.page_index.specs.Uses.{without, newest, is_in}
use Rattle.member_pool.specs.Sound.{come_first}

all_without : (q : ℕ → Bool) (f : ℕ) (xs : List ℕ) → list_all q xs ≡ true → list_all q (without f xs) ≡ true
all_without q f [] h = refl
all_without q f (x ∷ xs) h = let ih = all_without q f xs (grind arith) in grind (arith, ih)

none_first : (p : ℕ → Bool) (xs : List ℕ) → list_all (λ g. not (p g)) xs ≡ true → come_first p xs ≡ true
none_first p [] h = refl
none_first p (x ∷ xs) h = grind arith

first_without : (p : ℕ → Bool) (f : ℕ) (xs : List ℕ) → come_first p xs ≡ true → come_first p (without f xs) ≡ true
first_without p f [] h = refl
first_without p f (x ∷ xs) h = by (p x) (nat_eq f x) refl refl (first_without p f xs)
  where
    by : (b c : Bool) → p x ≡ b → nat_eq f x ≡ c → (come_first p xs ≡ true → come_first p (without f xs) ≡ true) → come_first p (without f (x ∷ xs)) ≡ true
    by true true e k rest = let ih = rest (grind arith) in grind (arith, ih)
    by true false e k rest = let ih = rest (grind arith) in grind (arith, ih)
    by false true e k rest = let r = none_first p (without f xs) (all_without (λ g. not (p g)) f xs (grind arith)) in grind (arith, r)
    by false false e k rest = let r = all_without (λ g. not (p g)) f xs (grind arith) in grind (arith, r)

all_push : (q : ℕ → Bool) (f : ℕ) (xs : List ℕ) → list_all q xs ≡ true → q f ≡ true → list_all q (xs ++ f ∷ []) ≡ true
all_push q f [] h t = grind arith
all_push q f (x ∷ xs) h t = let ih = all_push q f xs (grind arith) t in grind (arith, ih)

first_push : (p : ℕ → Bool) (f : ℕ) (xs : List ℕ) → come_first p xs ≡ true → p f ≡ false → come_first p (xs ++ f ∷ []) ≡ true
first_push p f [] h t = grind arith
first_push p f (x ∷ xs) h t = by (p x) refl (λ k. first_push p f xs k t)
  where
    by : (b : Bool) → p x ≡ b → (come_first p xs ≡ true → come_first p (xs ++ f ∷ []) ≡ true) → come_first p ((x ∷ xs) ++ f ∷ []) ≡ true
    by true e rest = let ih = rest (grind arith) in grind (arith, ih)
    by false e rest = let r = all_push (λ g. not (p g)) f xs (grind arith) (grind arith) in grind (arith, r)

-- a test that differs at f alone
all_but : (q r : ℕ → Bool) (f : ℕ) (xs : List ℕ) → ((g : ℕ) → nat_eq f g ≡ false → r g ≡ q g) → list_all r (without f xs) ≡ list_all q (without f xs)
all_but q r f [] same = refl
all_but q r f (x ∷ xs) same = by (nat_eq f x) refl (all_but q r f xs same)
  where
    by : (b : Bool) → nat_eq f x ≡ b → list_all r (without f xs) ≡ list_all q (without f xs) → list_all r (without f (x ∷ xs)) ≡ list_all q (without f (x ∷ xs))
    by true e ih = grind (arith, ih)
    by false e ih = let here = same x e in grind (arith, ih, here)

first_but : (p r : ℕ → Bool) (f : ℕ) (xs : List ℕ) → ((g : ℕ) → nat_eq f g ≡ false → r g ≡ p g) → come_first r (without f xs) ≡ come_first p (without f xs)
first_but p r f [] same = refl
first_but p r f (x ∷ xs) same = by (nat_eq f x) refl (first_but p r f xs same) (all_but (λ g. not (p g)) (λ g. not (r g)) f xs (λ g e. ap not (same g e)))
  where
    by : (b : Bool) → nat_eq f x ≡ b → come_first r (without f xs) ≡ come_first p (without f xs)
        → list_all (λ g. not (r g)) (without f xs) ≡ list_all (λ g. not (p g)) (without f xs) → come_first r (without f (x ∷ xs)) ≡ come_first p (without f (x ∷ xs))
    by true e ih all = grind (arith, ih)
    by false e ih all = let here = same x e in grind (arith, ih, all, here)

pub first_newest : (p r : ℕ → Bool) (f : ℕ) (xs : List ℕ) → ((g : ℕ) → nat_eq f g ≡ false → r g ≡ p g) → r f ≡ false → come_first p xs ≡ true → come_first r (newest f xs) ≡ true
first_newest p r f xs same fails h = first_push r f (without f xs) (first_but p r f xs same ∙ first_without p f xs h) fails

pub first_oldest : (p r : ℕ → Bool) (f : ℕ) (xs : List ℕ) → ((g : ℕ) → nat_eq f g ≡ false → r g ≡ p g) → r f ≡ true → come_first p xs ≡ true → come_first r (f ∷ without f xs) ≡ true
first_oldest p r f xs same passes h = ap (λ b. cond b (come_first r (without f xs)) (list_all (λ g. not (r g)) (without f xs))) passes ∙ first_but p r f xs same ∙ first_without p f xs h

pub all_first : (p : ℕ → Bool) (xs : List ℕ) → ((g : ℕ) → p g ≡ true) → come_first p xs ≡ true
all_first p [] h = refl
all_first p (x ∷ xs) h = ap (λ b. cond b (come_first p xs) (list_all (λ g. not (p g)) xs)) (h x) ∙ all_first p xs h

-- ---- the first that passes

none_found : (p : ℕ → Bool) (xs : List ℕ) → list_all (λ g. not (p g)) xs ≡ true → find p xs ≡ None
none_found p [] h = refl
none_found p (x ∷ xs) h =
    let here : p x ≡ false = grind arith in
    let rest : list_all (λ g. not (p g)) xs ≡ true = grind arith in
    ap (λ b. cond b (Some x) (find p xs)) here ∙ none_found p xs rest

same_front : (a b : ℕ) → Some a ≡ Some b → a ≡ b
same_front a b h = cc

pub front_passes : (p : ℕ → Bool) (x : ℕ) (xs : List ℕ) → slice_get xs 0 ≡ Some x → p x ≡ true → find p xs ≡ Some x
front_passes p x [] e h = absurd (none-some x e)
front_passes p x (y ∷ xs) e h =
    let is : y ≡ x = same_front y x e in
    ap (λ b. cond b (Some y) (find p xs)) (ap p is ∙ h) ∙ ap (λ k. Some k) is

pub front_fails : (p : ℕ → Bool) (x : ℕ) (xs : List ℕ) → come_first p xs ≡ true → slice_get xs 0 ≡ Some x → p x ≡ false → find p xs ≡ None
front_fails p x [] first e h = absurd (none-some x e)
front_fails p x (y ∷ xs) first e h =
    let here : p y ≡ false = ap p (same_front y x e) ∙ h in
    ap (λ b. cond b (Some y) (find p xs)) here ∙ none_found p xs (sym (ap (λ b. cond b (come_first p xs) (list_all (λ g. not (p g)) xs)) here) ∙ first)

pub no_front : (p : ℕ → Bool) (xs : List ℕ) → slice_get xs 0 ≡ None → find p xs ≡ None
no_front p [] e = refl
no_front p (x ∷ xs) e = absurd (none-some x (sym e))

pub found_passes : (p : ℕ → Bool) (xs : List ℕ) → IfSome (find p xs) (λ f. p f ≡ true)
found_passes p [] = tt
found_passes p (x ∷ xs) = by (p x) refl (found_passes p xs)
  where
    by : (b : Bool) → p x ≡ b → IfSome (find p xs) (λ f. p f ≡ true) → IfSome (find p (x ∷ xs)) (λ f. p f ≡ true)
    by true e rest = subst (λ b. IfSome (cond b (Some x) (find p xs)) (λ f. p f ≡ true)) (sym e) e
    by false e rest = subst (λ b. IfSome (cond b (Some x) (find p xs)) (λ f. p f ≡ true)) (sym e) rest

-- where none is found, each that is in the list fails
pub none_passes : (p : ℕ → Bool) (f : ℕ) (xs : List ℕ) → find p xs ≡ None → is_in f xs ≡ true → p f ≡ false
none_passes p f [] e h = absurd (true≢false (sym h))
none_passes p f (x ∷ xs) e h = by (p x) refl (none_passes p f xs)
  where
    by : (b : Bool) → p x ≡ b → (find p xs ≡ None → is_in f xs ≡ true → p f ≡ false) → p f ≡ false
    by true t rest = absurd (none-some x (sym e ∙ ap (λ b. cond b (Some x) (find p xs)) t))
    by false t rest = here (nat_eq f x) refl
      where
        here : (b : Bool) → nat_eq f x ≡ b → p f ≡ false
        here true is = ap p (eqb-true f x is) ∙ t
        here false is = rest (sym (ap (λ b. cond b (Some x) (find p xs)) t) ∙ e) (sym (ap (λ b. b || is_in f xs) is) ∙ h)
