-- The numbers that digits spell.
use Rattle.std.proofs.Common.{◌≡◌, ℕ, ◌+◌, ◌-◌, ◌*◌, ◌^◌, ◌<◌, ◌≤◌, Bool, true, false, ◌&&◌, nat_lt, List, [], ◌∷◌, length, get_or, drop, Some, None, arith, refl}
use Rattle.std.proofs.lemmas.Grind.{common_steps}
use Rattle.std.specs.Str.{all_ascii_digits}
use Rattle.number_text.specs.Numbers.{spelled, spelled_after, number_of, wide_number_of}

-- digits make a number no smaller
pub spelled_after_least : (n : ℕ) (digits : List ℕ) → n ≤ spelled_after n digits
spelled_after_least n [] = omega arith
spelled_after_least n (d ∷ ds) = omega (arith, spelled_after_least (n * 10 + (d - 48)) ds)

and_fourth : (a b c : Bool) → (a && (b && (c && false))) ≡ false
and_fourth false b c = refl
and_fourth true false c = refl
and_fourth true true false = refl
and_fourth true true true = refl

-- a word whose digits spell 2^64 or more is no number
pub too_great : (word : List ℕ) → 2 ^ 64 ≤ spelled word → number_of word ≡ None
too_great word h =
    let small : nat_lt (spelled word) (2 ^ 64) ≡ false = grind arith in
    rw (small, and_fourth) refl

-- as the digits of a word are read
pub read_too_great : (word : List ℕ) (i n : ℕ) → i < length word → spelled_after n (drop i word) ≡ spelled word → 2 ^ 64 ≤ n * 10 + (get_or word i 0 - 48) → number_of word ≡ None
read_too_great word i n low e h =
    let next : spelled_after n (drop i word) ≡ spelled_after (n * 10 + (get_or word i 0 - 48)) (drop (i + 1) word) = grind (arith, common_steps) in
    too_great word (omega (arith, e, next, spelled_after_least (n * 10 + (get_or word i 0 - 48)) (drop (i + 1) word)))

pub read_whole : (word : List ℕ) (n : ℕ) → 1 ≤ length word → length word ≤ 20 → all_ascii_digits word ≡ true → n ≡ spelled word → n < 2 ^ 64 → number_of word ≡ Some n
read_whole word n low high digits e h = grind (arith, common_steps)

-- ---- wide numbers

wide_too_great : (word : List ℕ) → 2 ^ 80 ≤ spelled word → wide_number_of word ≡ None
wide_too_great word h =
    let small : nat_lt (spelled word) (2 ^ 80) ≡ false = grind arith in
    rw (small, and_fourth) refl

pub read_wide_too_great : (word : List ℕ) (i n : ℕ) → i < length word → spelled_after n (drop i word) ≡ spelled word → 2 ^ 128 ≤ n * 10 + (get_or word i 0 - 48) → wide_number_of word ≡ None
read_wide_too_great word i n low e h =
    let next : spelled_after n (drop i word) ≡ spelled_after (n * 10 + (get_or word i 0 - 48)) (drop (i + 1) word) = grind (arith, common_steps) in
    wide_too_great word (omega (arith, e, next, spelled_after_least (n * 10 + (get_or word i 0 - 48)) (drop (i + 1) word)))

pub read_wide_end : (word : List ℕ) (n : ℕ) → n ≡ spelled word → 2 ^ 80 ≤ n → wide_number_of word ≡ None
read_wide_end word n e h = wide_too_great word (omega (arith, e))

pub read_wide_whole : (word : List ℕ) (n : ℕ) → 1 ≤ length word → length word ≤ 25 → all_ascii_digits word ≡ true → n ≡ spelled word → n < 2 ^ 80 → wide_number_of word ≡ Some n
read_wide_whole word n low high digits e h = grind (arith, common_steps)
