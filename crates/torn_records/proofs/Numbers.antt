-- Numbers of which the first bytes are given.
use Rattle.std.proofs.Common.{◌≡◌, ◌≢◌, ℕ, zero, suc, ◌*◌, ◌^◌, ◌/◌, ◌%◌, ◌<◌, ◌≤◌, List, [], ◌∷◌, ◌++◌, length, get_or, refl, sym, ap, ◌∙◌, arith, inl, inr}
use Rattle.std.specs.Int.{w16, to_be_bytes, byte_at, bytes_high_first}
use Rattle.std.proofs.lemmas.Bool.{cases_lt}
use Rattle.std.proofs.lemmas.List.{append-nil}
use Rattle.std.proofs.lemmas.Nat.{same_from_place, mod_below}
use Rattle.byteorder.specs.Endian.{big_from, big_number}
use Rattle.byteorder.specs.Numbers.{big_from-cons, big_from-lt, big_number-reads_back, length-bytes_high_first}
use Rattle.torn_records.specs.Mixes.{mix}
use Rattle.torn_records.proofs.Mixing.{mix_same, mix_length, mix_all, mix_past, mix_bytes}

-- ---- the number of bytes

-- each is a byte
abbrev IsBytes : List ℕ → Type 0
IsBytes bytes = (i : ℕ) → get_or bytes i 0 < 256

byte_at-below : (k n : ℕ) → byte_at k n < 256
byte_at-below zero n = mod_below n 256 (omega arith)
byte_at-below (suc k) n = mod_below (n / 256 ^ suc k) 256 (omega arith)

bytes_are : (w n : ℕ) → IsBytes (bytes_high_first w n)
bytes_are zero n i = omega arith
bytes_are (suc w) n zero = byte_at-below w n
bytes_are (suc w) n (suc i) = bytes_are w n i

rest_are : (x : ℕ) (xs : List ℕ) → IsBytes (x ∷ xs) → IsBytes xs
rest_are x xs h i = h (suc i)

-- as many bytes that give one number are the same bytes
same_bytes : (w : ℕ) (xs ys : List ℕ) → length xs ≡ w → length ys ≡ w → IsBytes xs → IsBytes ys → big_from 0 w xs ≡ big_from 0 w ys → xs ≡ ys
same_bytes zero [] [] p q f g e = refl
same_bytes zero [] (y ∷ ys) p q f g e = absurd (omega arith)
same_bytes zero (x ∷ xs) ys p q f g e = absurd (omega arith)
same_bytes (suc w) [] ys p q f g e = absurd (omega arith)
same_bytes (suc w) (x ∷ xs) [] p q f g e = absurd (omega arith)
same_bytes (suc w) (x ∷ xs) (y ∷ ys) p q f g e =
    let a : big_from 1 w (x ∷ xs) ≡ big_from 0 w xs = big_from-cons 0 w x xs in
    let b : big_from 1 w (y ∷ ys) ≡ big_from 0 w ys = big_from-cons 0 w y ys in
    let both = same_from_place x (big_from 0 w xs) y (big_from 0 w ys) (256 ^ w) (big_from-lt 0 w xs (rest_are x xs f)) (big_from-lt 0 w ys (rest_are y ys g)) (rw (a, b) at e) in
    let rest : xs ≡ ys = same_bytes w xs ys (omega arith) (omega arith) (rest_are x xs f) (rest_are y ys g) both.1 in
    cc (both.0, rest)

bytes_back : (w : ℕ) (bytes : List ℕ) → length bytes ≡ w → IsBytes bytes → bytes_high_first w (big_number w bytes) ≡ bytes
bytes_back w bytes len f =
    let n = big_number w bytes in
    let again : big_from 0 w (bytes_high_first w n ++ []) ≡ n = big_number-reads_back w n [] (big_from-lt 0 w bytes f) in
    let same : big_from 0 w (bytes_high_first w n) ≡ big_from 0 w bytes = ap (big_from 0 w) (sym (append-nil (bytes_high_first w n))) ∙ again in
    same_bytes w (bytes_high_first w n) bytes (length-bytes_high_first w n) len (bytes_are w n) f same

number_back : (w n : ℕ) → n < 256 ^ w → big_number w (bytes_high_first w n) ≡ n
number_back w n lt = ap (big_from 0 w) (sym (append-nil (bytes_high_first w n))) ∙ big_number-reads_back w n [] lt

-- ---- any number

-- the bytes are those of a number
pub record Number (w : ℕ) (bytes : List ℕ) : Type 0 where
  pub value : ℕ
  pub below : value < 256 ^ w
  pub is : bytes_high_first w value ≡ bytes

wide : (w x y : ℕ) → length (bytes_high_first w x) ≡ length (bytes_high_first w y)
wide w x y = length-bytes_high_first w x ∙ sym (length-bytes_high_first w y)

pub number_mixed : (w x y n : ℕ) → Number w (mix n (bytes_high_first w x) (bytes_high_first w y))
number_mixed w x y n =
    let bytes = mix n (bytes_high_first w x) (bytes_high_first w y) in
    let fits : IsBytes bytes = mix_bytes n (bytes_high_first w x) (bytes_high_first w y) (bytes_are w x) (bytes_are w y) in
    let long : length bytes ≡ w = mix_length n (bytes_high_first w x) (bytes_high_first w y) (wide w x y) ∙ length-bytes_high_first w y in
    record { value = big_number w bytes; below = big_from-lt 0 w bytes fits; is = bytes_back w bytes long fits }

-- ---- a number that isn't 0

last_byte : (w n : ℕ) → get_or (bytes_high_first (suc w) n) w 0 ≡ n % 256
last_byte zero n = refl
last_byte (suc w) n = last_byte w n

pub some_mixed : (w x n : ℕ) → x < 256 ^ suc w → x ≢ 0 → (m : Number (suc w) (mix n (bytes_high_first (suc w) x) (bytes_high_first (suc w) 1))) → m.value ≢ 0
some_mixed w x n lt some m =
    let xs = bytes_high_first (suc w) x in
    let ys = bytes_high_first (suc w) 1 in
    λ none. elim (cases_lt n (suc w)) as (λ _. ⊥) [
      | inl few ↦
          let last : get_or (bytes_high_first (suc w) m.value) w 0 ≡ get_or ys w 0 = ap (λ (l : List ℕ). get_or l w 0) m.is ∙ mix_past n xs ys w (wide (suc w) x 1) (omega arith) in
          let one : m.value % 256 ≡ 1 = sym (last_byte w m.value) ∙ last ∙ last_byte w 1 in
          omega (arith, one, none)
      | inr more ↦
          let all : bytes_high_first (suc w) m.value ≡ xs = m.is ∙ mix_all n xs ys (wide (suc w) x 1) (omega (arith, length-bytes_high_first (suc w) x, more)) in
          let same : m.value ≡ x = sym (number_back (suc w) m.value m.below) ∙ ap (big_number (suc w)) all ∙ number_back (suc w) x lt in
          some (sym same ∙ none)
    ]

-- ---- two bytes

-- with zeros behind its first bytes a number is no higher
pub low_mixed : (n x : ℕ) → x < 65536 → (z : ℕ) × (z ≤ x) × (to_be_bytes w16 z ≡ mix n (to_be_bytes w16 x) (to_be_bytes w16 0))
low_mixed zero x lt = (0, omega arith, refl)
low_mixed (suc zero) x lt =
    let z : ℕ = x / 256 * 256 in
    let high : z / 256 % 256 ≡ x / 256 % 256 = omega arith in
    let low : z % 256 ≡ 0 = omega arith in
    (z, omega arith, ap (λ (b : ℕ). b ∷ z % 256 ∷ []) high ∙ ap (λ (b : ℕ). x / 256 % 256 ∷ b ∷ []) low)
low_mixed (suc (suc n)) x lt = (x, omega arith, ap (λ (l : List ℕ). x / 256 % 256 ∷ x % 256 ∷ l) (sym (mix_same n [])))

-- the number of a page set
pub set_mixed : (n x : ℕ) → 1 ≤ x → x ≤ 128 → (z : ℕ) × (1 ≤ z) × (z ≤ 128) × (to_be_bytes w16 z ≡ mix n (to_be_bytes w16 x) (to_be_bytes w16 1))
set_mixed zero x from to = (1, omega arith, omega arith, refl)
set_mixed (suc zero) x from to = let high : 0 ≡ x / 256 % 256 = omega arith in (1, omega arith, omega arith, ap (λ (b : ℕ). b ∷ 1 ∷ []) high)
set_mixed (suc (suc n)) x from to = (x, from, to, ap (λ (l : List ℕ). x / 256 % 256 ∷ x % 256 ∷ l) (sym (mix_same n [])))
