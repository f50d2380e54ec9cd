-- The first piece of a text.
use Rattle.std.proofs.Common.{◌≡◌, ℕ, suc, ◌+◌, ◌<◌, ◌≤◌, Bool, true, false, not, eqb, cond, List, [], ◌∷◌, length, take, drop, refl, sym, ap, ◌∙◌, arith}
use Rattle.std.specs.List.{prefix_len, position}
use Rattle.std.specs.Prelude.{Option, Some, None}
use Rattle.std.proofs.lemmas.Bool.{ltb-true, ltb-false}
use Rattle.std.proofs.lemmas.Option.{none-some, same_Some}
use Rattle.std.proofs.lemmas.List.{take_all}
use Rattle.script_text.specs.TextLines.{onto, pieces}

-- how many bytes stand before the first line feed
abbrev place_of : List ℕ → ℕ
place_of xs = prefix_len (λ (b : ℕ). not (eqb b 10)) xs

found_step : (x : ℕ) (t : Bool) (n : ℕ) (xs : List ℕ) → cond (not t) (1 + n) 0 < suc (length xs) → (n < length xs → pieces xs ≡ take (n + 1) xs ∷ pieces (drop (n + 1) xs)) → cond t ((x ∷ []) ∷ pieces xs) (onto x (pieces xs)) ≡ take (cond (not t) (1 + n) 0 + 1) (x ∷ xs) ∷ pieces (drop (cond (not t) (1 + n) 0 + 1) (x ∷ xs))
found_step x true n xs h ih = refl
found_step x false n xs h ih =
    let e : 1 + n + 1 ≡ suc (n + 1) = omega arith in
    rw e (ap (onto x) (ih (omega arith)))

found : (xs : List ℕ) → place_of xs < length xs → pieces xs ≡ take (place_of xs + 1) xs ∷ pieces (drop (place_of xs + 1) xs)
found [] h = absurd (omega arith)
found (x ∷ xs) h = found_step x (eqb x 10) (place_of xs) xs h (found xs)

none_step : (x : ℕ) (t : Bool) (n : ℕ) (xs : List ℕ) → suc (length xs) ≤ cond (not t) (1 + n) 0 → (0 < length xs → length xs ≤ n → pieces xs ≡ xs ∷ []) → cond t ((x ∷ []) ∷ pieces xs) (onto x (pieces xs)) ≡ (x ∷ xs) ∷ []
none_step x true n xs h ih = absurd (omega arith)
none_step x false n [] h ih = refl
none_step x false n (y ∷ ys) h ih = ap (onto x) (ih (omega arith) (omega arith))

none : (xs : List ℕ) → 0 < length xs → length xs ≤ place_of xs → pieces xs ≡ xs ∷ []
none [] h k = absurd (omega arith)
none (x ∷ xs) h k = none_step x (eqb x 10) (place_of xs) xs k (none xs)

no_rest : (xs : List ℕ) → drop (length xs) xs ≡ []
no_rest [] = refl
no_rest (x ∷ xs) = no_rest xs

by_test : (t : Bool) (n at : ℕ) → cond t (Some n) None ≡ Some at → (t ≡ true) × (n ≡ at)
by_test true n at h = (refl, same_Some n at h)
by_test false n at h = absurd (none-some at h)

not_by_test : (t : Bool) (n : ℕ) → cond t (Some n) None ≡ None → t ≡ false
not_by_test true n h = absurd (none-some n (sym h))
not_by_test false n h = refl

pub cut_found : (xs : List ℕ) (at : ℕ) → position (λ (b : ℕ). eqb b 10) xs ≡ Some at → (pieces xs ≡ take (at + 1) xs ∷ pieces (drop (at + 1) xs)) × (at < length xs)
cut_found xs at h =
    let t = by_test _ (place_of xs) at h in
    let low : place_of xs < length xs = ltb-true (place_of xs) (length xs) t.0 in
    rw (← t.1) (found xs low, low)

pub cut_none : (xs : List ℕ) → 0 < length xs → position (λ (b : ℕ). eqb b 10) xs ≡ None → pieces xs ≡ take (length xs) xs ∷ pieces (drop (length xs) xs)
cut_none xs some h =
    let high : length xs ≤ place_of xs = ltb-false (place_of xs) (length xs) (not_by_test _ (place_of xs) h) in
    rw (take_all (length xs) xs (omega arith), no_rest xs) (none xs some high)
