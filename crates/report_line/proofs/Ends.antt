-- A line and its line feed.
use Rattle.std.proofs.Common.{◌≡◌, ℕ, Bool, true, false, ◌&&◌, ◌==◌, List, [], ◌∷◌, ◌++◌, length, refl, ap, ◌∙◌, sym, arith}
use Rattle.std.specs.Str.{bytes_eq}

and_false : (a : Bool) → (a && false) ≡ false
and_false true = refl
and_false false = refl

and_true : (a : Bool) → (a && true) ≡ (true && a)
and_true true = refl
and_true false = refl

and_swap : (a b c : Bool) → (a && (b && c)) ≡ (b && (a && c))
and_swap true b c = refl
and_swap false b c = sym (and_false b)

whole_ends : (ys text : List ℕ) (x : ℕ) → bytes_eq (ys ++ x ∷ []) (text ++ 10 ∷ []) ≡ ((x == 10) && bytes_eq ys text)
whole_ends [] [] x = refl
whole_ends [] (t ∷ []) x = and_false (x == t) ∙ sym (and_false (x == 10))
whole_ends [] (t ∷ u ∷ text) x = and_false (x == t) ∙ sym (and_false (x == 10))
whole_ends (y ∷ []) [] x = and_false (y == 10) ∙ sym (and_false (x == 10))
whole_ends (y ∷ z ∷ ys) [] x = and_false (y == 10) ∙ sym (and_false (x == 10))
whole_ends (y ∷ ys) (t ∷ text) x = ap (λ b. (y == t) && b) (whole_ends ys text x) ∙ and_swap (y == t) (x == 10) (bytes_eq ys text)

pub whole_is : (spelling ys text : List ℕ) (x : ℕ) → spelling ≡ ys ++ x ∷ [] → bytes_eq spelling (text ++ 10 ∷ []) ≡ ((x == 10) && bytes_eq ys text)
whole_is spelling ys text x e = ap (λ s. bytes_eq s (text ++ 10 ∷ [])) e ∙ whole_ends ys text x

pub whole_never : (spelling text : List ℕ) → length spelling ≡ 0 → bytes_eq spelling (text ++ 10 ∷ []) ≡ false
whole_never [] [] e = refl
whole_never [] (t ∷ text) e = refl
whole_never (s ∷ spelling) text e = absurd (omega arith)

pub whole_yes : (spelling ys text : List ℕ) (x : ℕ) → spelling ≡ ys ++ x ∷ [] → (x == 10) ≡ true → bytes_eq ys text ≡ bytes_eq spelling (text ++ 10 ∷ [])
whole_yes spelling ys text x e last = sym (whole_is spelling ys text x e ∙ ap (λ b. b && bytes_eq ys text) last)

pub whole_no : (spelling ys text : List ℕ) (x : ℕ) → spelling ≡ ys ++ x ∷ [] → (x == 10) ≡ false → (x == 10) ≡ bytes_eq spelling (text ++ 10 ∷ [])
whole_no spelling ys text x e last = last ∙ sym (whole_is spelling ys text x e ∙ ap (λ b. b && bytes_eq ys text) last)
