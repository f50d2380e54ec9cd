-- Tests of membership and what they mean.
use Rattle.std.proofs.Common.{◌≡◌, ◌⊎◌, ℕ, Bool, true, false, ◌||◌, eqb, List, [], ◌∷◌, ◌++◌, length, get_or, Contains, bytes_eq, refl, sym, ap, ◌∙◌, subst, inl, inr, eq-eqb, arith, ◌<◌}
use Rattle.std.specs.List.{list_any}
use Rattle.std.proofs.lemmas.Bool.{eqb-true}
use Rattle.std.proofs.lemmas.List.Folds.{list_any_at}
use Rattle.std.proofs.lemmas.List.Elements.{Contains-append_left, Contains-append_right, Contains-push, Contains-push_cases}
use Rattle.std.proofs.lemmas.Slice.Eq.{bytes_eq-Decides}
use Rattle.ds_model.specs.Scripts.{Differ, Lacks}
use Rattle.script_text.specs.SoFar.{has_number, has_name}

found_by : {A : Type 0} (t : A → Bool) (xs : List A) (x : A) → t x ≡ true → Contains xs x → list_any t xs ≡ true
found_by t xs x h c = list_any_at t xs c.0 x c.1 (ap t c.2 ∙ h)

lacked_by : {A : Type 0} (t : A → Bool) (xs : List A) (x : A) → t x ≡ true → list_any t xs ≡ false → Contains xs x → ⊥
lacked_by t xs x h k c = let e : true ≡ false = sym (found_by t xs x h c) ∙ k in cc

kept_step : {A : Type 0} (t : A → Bool) (x : A) → ((y : A) → t y ≡ true → y ≡ x) → (y : A) (ys : List A) (b : Bool) → t y ≡ b → (b || list_any t ys) ≡ true → (list_any t ys ≡ true → Contains ys x) → Contains (y ∷ ys) x
kept_step t x h y ys true e k more = subst (Contains (y ∷ ys)) (h y e) (Contains-append_left (y ∷ []) ys y (Contains-push [] y))
kept_step t x h y ys false e k more = Contains-append_right (y ∷ []) ys x (more k)

kept_by : {A : Type 0} (t : A → Bool) (x : A) → ((y : A) → t y ≡ true → y ≡ x) → (xs : List A) → list_any t xs ≡ true → Contains xs x
kept_by t x h [] k = cc
kept_by t x h (y ∷ ys) k = kept_step t x h y ys (t y) refl k (kept_by t x h ys)

false_of : (b : Bool) → (b ≡ true → ⊥) → b ≡ false
false_of true h = absurd (h refl)
false_of false h = refl

pub contains_number : (xs : List ℕ) (n : ℕ) → has_number xs n ≡ true → Contains xs n
contains_number xs n h = kept_by (λ x. eqb x n) n (λ y e. eqb-true y n e) xs h

pub lacks_number : (xs : List ℕ) (n : ℕ) → has_number xs n ≡ false → Lacks xs n
lacks_number xs n h = lacked_by (λ x. eqb x n) xs n (eq-eqb n n refl) h

pub number_contained : (xs : List ℕ) (n : ℕ) → Contains xs n → has_number xs n ≡ true
number_contained xs n h = found_by (λ x. eqb x n) xs n (eq-eqb n n refl) h

pub number_lacked : (xs : List ℕ) (n : ℕ) → Lacks xs n → has_number xs n ≡ false
number_lacked xs n h = false_of (has_number xs n) (λ e. h (contains_number xs n e))

pub lacks_name : (names : List (List ℕ)) (name : List ℕ) → has_name names name ≡ false → Contains names name → ⊥
lacks_name names name h = lacked_by (λ x. bytes_eq name x) names name ((bytes_eq-Decides name name).1 refl) h

contains_name : (names : List (List ℕ)) (name : List ℕ) → has_name names name ≡ true → Contains names name
contains_name names name h = kept_by (λ x. bytes_eq name x) name (λ y e. sym ((bytes_eq-Decides name y).0 e)) names h

pub name_lacked : (names : List (List ℕ)) (name : List ℕ) → (Contains names name → ⊥) → has_name names name ≡ false
name_lacked names name h = false_of (has_name names name) (λ e. h (contains_name names name e))

apart : (xs : List (List ℕ)) (x y : List ℕ) → (Contains xs x → ⊥) → (y ≡ x → ⊥) → Contains xs x ⊎ (y ≡ x) → ⊥
apart xs x y h k (inl c) = h c
apart xs x y h k (inr e) = k e

nothing : (y : List ℕ) → Contains [] y → ⊥
nothing y c = omega (arith, c.1)

pub differ_push : (xs : List (List ℕ)) (y : List ℕ) → Differ xs → (Contains xs y → ⊥) → Differ (xs ++ y ∷ [])
differ_push [] y d h = ((λ c. nothing y c), tt)
differ_push (x ∷ xs) y d h = (
  (λ c. apart xs x y d.0 (λ e. h (subst (Contains (x ∷ xs)) (sym e) (Contains-append_left (x ∷ []) xs x (Contains-push [] x)))) (Contains-push_cases xs y x c)),
  differ_push xs y d.1 (λ c. h (Contains-append_right (x ∷ []) xs y c)),
)

pub fewer : (xs ys : List ℕ) (n : ℕ) → Lacks (xs ++ ys) n → Lacks xs n
fewer xs ys n h c = h (Contains-append_left xs ys n c)
