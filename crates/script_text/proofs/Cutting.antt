-- The lines of a text that is spelled line by line.
use Rattle.std.proofs.Common.{◌≡◌, ℕ, zero, suc, ◌+◌, ◌-◌, ◌<◌, ◌≤◌, Bool, true, false, eqb, nat_lt, ◌&&◌, if◌then◌else◌, List, [], ◌∷◌, ◌++◌, length, take, get_or, All, refl, sym, ap, ◌∙◌, subst, arith, length-append}
use Rattle.std.specs.List.{AllByRecursion}
use Rattle.std.proofs.lemmas.Bool.{ne_eqb}
use Rattle.std.proofs.lemmas.Bool.Decides.{nat_tests}
use Rattle.std.proofs.lemmas.List.Elements.{recursion_from_All}
use Rattle.script_line.specs.Canonical.{IsPrinted}
use Rattle.script_text.specs.TextLines.{onto, pieces, ends_in, without_last, line_of}

pub piece : (x rest : List ℕ) → AllByRecursion IsPrinted x → pieces ((x ++ 10 ∷ []) ++ rest) ≡ (x ++ 10 ∷ []) ∷ pieces rest
piece [] rest h = refl
piece (b ∷ x) rest h = rw (ne_eqb b 10 (λ e. omega (arith, h.0))) (ap (onto b) (piece x rest h.1))

-- what stands last, and before it
last_is : (x : List ℕ) (b d : ℕ) → get_or (x ++ b ∷ []) (length x) d ≡ b
last_is [] b d = refl
last_is (a ∷ x) b d = last_is x b d

front_is : (x : List ℕ) (b : ℕ) → take (length x) (x ++ b ∷ []) ≡ x
front_is [] b = refl
front_is (a ∷ x) b = ap (λ xs. a ∷ xs) (front_is x b)

long : (x : List ℕ) (b : ℕ) → length (x ++ b ∷ []) - 1 ≡ length x
long x b = omega (arith, length-append x (b ∷ []))

above_zero : (n : ℕ) → nat_lt 0 (suc n) ≡ true
above_zero n = grind (arith, nat_tests)

some : (x : List ℕ) (b : ℕ) → nat_lt 0 (length (x ++ b ∷ [])) ≡ true
some [] b = refl
some (a ∷ x) b = above_zero (length (x ++ b ∷ []))

and_false : (a b : Bool) → b ≡ false → (a && b) ≡ false
and_false true b h = h
and_false false b h = refl

ends_pushed : (c : ℕ) (x : List ℕ) (b : ℕ) → ends_in c (x ++ b ∷ []) ≡ eqb b c
ends_pushed c x b = rw (some x b, long x b, last_is x b 0) refl

fronts : (x : List ℕ) (b : ℕ) → without_last (x ++ b ∷ []) ≡ x
fronts x b = rw (long x b) (front_is x b)

-- a list of printed bytes doesn't end in a carriage return
last_printed : (x : List ℕ) → AllByRecursion IsPrinted x → (i d : ℕ) → i < length x → 32 ≤ get_or x i d
last_printed [] h i d l = absurd (omega arith)
last_printed (b ∷ x) h zero d l = h.0.0
last_printed (b ∷ x) h (suc i) d l = last_printed x h.1 i d (omega arith)

no_return : (x : List ℕ) → AllByRecursion IsPrinted x → ends_in 13 x ≡ false
no_return [] h = refl
no_return (b ∷ x) h =
    let low : 32 ≤ get_or (b ∷ x) (length x) 0 = last_printed (b ∷ x) h (length x) 0 (omega arith) in
    let here : suc (length x) - 1 ≡ length x = omega arith in
    and_false (nat_lt 0 (suc (length x))) _ (rw here (ne_eqb (get_or (b ∷ x) (length x) 0) 13 (λ e. omega (arith, low))))

by_ends : (piece front : List ℕ) → ends_in 10 piece ≡ true → without_last piece ≡ front → ends_in 13 front ≡ false → line_of piece ≡ front
by_ends piece front h e k = rw (h, e, k) refl

pub line_is : (x : List ℕ) → AllByRecursion IsPrinted x → line_of (x ++ 10 ∷ []) ≡ x
line_is x h = by_ends (x ++ 10 ∷ []) x (ends_pushed 10 x 10) (fronts x 10) (no_return x h)

pub printed : (x : List ℕ) → All IsPrinted x → AllByRecursion IsPrinted x
printed x h = recursion_from_All IsPrinted x h
