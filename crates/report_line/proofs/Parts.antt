-- The parts of a text that is cut at its first separator.
use Rattle.std.proofs.Common.{◌≡◌, ℕ, ◌+◌, ◌<◌, ◌≤◌, Bool, true, false, not, cond, nat_lt, List, [], ◌∷◌, length, Some, None, take, drop, refl, arith, subst}
use Rattle.std.proofs.lemmas.Bool.Decides.{nat_tests}
use Rattle.std.proofs.lemmas.List.Splits.{slice_split_first}
use Rattle.std.specs.List.{slice_split, onto_first, position, position_or_len}

place_true : (b : Bool) (n i : ℕ) → cond b (Some n) None ≡ Some i → b ≡ true
place_true true n i e = refl
place_true false n i e = cc

place_is : (b : Bool) (n i : ℕ) → cond b (Some n) None ≡ Some i → n ≡ i
place_is true n i e = cc
place_is false n i e = cc

place_false : (b : Bool) (n : ℕ) → cond b (Some n) None ≡ None → b ≡ false
place_false true n e = cc
place_false false n e = refl

pub split_found : (p : ℕ → Bool) (xs : List ℕ) (i : ℕ) → position p xs ≡ Some i → slice_split p xs ≡ take i xs ∷ slice_split p (drop (i + 1) xs)
split_found p xs i e =
    let low : position_or_len p xs < length xs = let t = place_true (nat_lt (position_or_len p xs) (length xs)) (position_or_len p xs) i e in grind (arith, nat_tests) in
    subst (λ n. slice_split p xs ≡ take n xs ∷ slice_split p (drop (n + 1) xs)) (place_is _ _ _ e) (slice_split_first p xs 0 low)

without : (b : Bool) (x : ℕ) (xs : List ℕ) (n : ℕ) (parts : List (List ℕ)) → length (x ∷ xs) ≤ cond (not b) (1 + n) 0 → (length xs ≤ n → parts ≡ xs ∷ []) → cond b ([] ∷ parts) (onto_first x parts) ≡ (x ∷ xs) ∷ []
without true x xs n parts h ih = absurd (omega arith)
without false x xs n parts h ih = rw (ih (omega arith)) refl

split_past : (p : ℕ → Bool) (xs : List ℕ) → length xs ≤ position_or_len p xs → slice_split p xs ≡ xs ∷ []
split_past p [] h = refl
split_past p (x ∷ xs) h = without (p x) x xs (position_or_len p xs) (slice_split p xs) h (split_past p xs)

pub split_missing : (p : ℕ → Bool) (xs : List ℕ) → position p xs ≡ None → slice_split p xs ≡ xs ∷ []
split_missing p xs e =
    let past = place_false (nat_lt (position_or_len p xs) (length xs)) (position_or_len p xs) e in
    split_past p xs (grind (arith, nat_tests))
