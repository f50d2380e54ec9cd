-- The bytes of a number, the highest first, and the number of bytes.
use Rattle.std.proofs.Common.{◌≡◌, ℕ, zero, suc, ◌+◌, ◌^◌, ◌/◌, ◌%◌, ◌<◌, List, [], ◌∷◌, ◌++◌, length, get_or, take, drop, refl, sym, ap, ◌∙◌, arith, inl, inr}
use Rattle.std.specs.Int.{byte_at, bytes_high_first}
use Rattle.std.proofs.lemmas.Bool.{cases_lt}
use Rattle.std.proofs.lemmas.List.{append-nil, get_or-drop, get_or-take, get_or_past, length-take}
use Rattle.std.proofs.lemmas.Nat.{same_from_place, mod_below}
use Rattle.byteorder.specs.Endian.{big_from, big_number}
use Rattle.byteorder.specs.Numbers.{big_from-cons, big_from-lt, big_number-reads_back, length-bytes_high_first}

-- each is a byte
abbrev pub IsBytes : List ℕ → Type 0
IsBytes bytes = (i : ℕ) → get_or bytes i 0 < 256

pub IsBytes-drop : (n : ℕ) (bytes : List ℕ) → IsBytes bytes → IsBytes (drop n bytes)
IsBytes-drop n bytes h i = rw get_or-drop (h (n + i))

pub IsBytes-take : (n : ℕ) (bytes : List ℕ) → IsBytes bytes → IsBytes (take n bytes)
IsBytes-take n bytes h i =
    elim (cases_lt i n) [
      | inl lt ↦ rw (get_or-take n bytes i 0 lt) (h i)
      | inr le ↦ rw (get_or_past (take n bytes) i 0 (omega (arith, length-take n bytes))) (omega arith)
    ]

byte_at-below : (k n : ℕ) → byte_at k n < 256
byte_at-below zero n = mod_below n 256 (omega arith)
byte_at-below (suc k) n = mod_below (n / 256 ^ suc k) 256 (omega arith)

bytes_are : (w n : ℕ) → IsBytes (bytes_high_first w n)
bytes_are zero n i = omega arith
bytes_are (suc w) n zero = byte_at-below w n
bytes_are (suc w) n (suc i) = bytes_are w n i

rest_are : (x : ℕ) (xs : List ℕ) → IsBytes (x ∷ xs) → IsBytes xs
rest_are x xs h i = h (suc i)

-- as many bytes that give one number are the same bytes
same_bytes : (w : ℕ) (xs ys : List ℕ) → length xs ≡ w → length ys ≡ w → IsBytes xs → IsBytes ys → big_from 0 w xs ≡ big_from 0 w ys → xs ≡ ys
same_bytes zero [] [] p q f g e = refl
same_bytes zero [] (y ∷ ys) p q f g e = absurd (omega arith)
same_bytes zero (x ∷ xs) ys p q f g e = absurd (omega arith)
same_bytes (suc w) [] ys p q f g e = absurd (omega arith)
same_bytes (suc w) (x ∷ xs) [] p q f g e = absurd (omega arith)
same_bytes (suc w) (x ∷ xs) (y ∷ ys) p q f g e =
    let a : big_from 1 w (x ∷ xs) ≡ big_from 0 w xs = big_from-cons 0 w x xs in
    let b : big_from 1 w (y ∷ ys) ≡ big_from 0 w ys = big_from-cons 0 w y ys in
    let both = same_from_place x (big_from 0 w xs) y (big_from 0 w ys) (256 ^ w) (big_from-lt 0 w xs (rest_are x xs f)) (big_from-lt 0 w ys (rest_are y ys g)) (rw (a, b) at e) in
    let rest : xs ≡ ys = same_bytes w xs ys (omega arith) (omega arith) (rest_are x xs f) (rest_are y ys g) both.1 in
    cc (both.0, rest)

-- the bytes of the number that bytes give are they
pub bytes_back : (w : ℕ) (bytes : List ℕ) → length bytes ≡ w → IsBytes bytes → bytes_high_first w (big_number w bytes) ≡ bytes
bytes_back w bytes len f =
    let n = big_number w bytes in
    let again : big_from 0 w (bytes_high_first w n ++ []) ≡ n = big_number-reads_back w n [] (big_from-lt 0 w bytes f) in
    let same : big_from 0 w (bytes_high_first w n) ≡ big_from 0 w bytes = ap (big_from 0 w) (sym (append-nil (bytes_high_first w n))) ∙ again in
    same_bytes w (bytes_high_first w n) bytes (length-bytes_high_first w n) len (bytes_are w n) f same

-- the number that the bytes of a number give is it
pub number_back : (w n : ℕ) → n < 256 ^ w → big_number w (bytes_high_first w n) ≡ n
number_back w n lt = ap (big_from 0 w) (sym (append-nil (bytes_high_first w n))) ∙ big_number-reads_back w n [] lt

-- a byte by itself
pub one_byte : (n : ℕ) → n < 256 → bytes_high_first 1 n ≡ n ∷ []
one_byte n lt = let e : n % 256 ≡ n = omega arith in ap (λ (b : ℕ). b ∷ []) e
