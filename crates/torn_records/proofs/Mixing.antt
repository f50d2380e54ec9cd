-- A front of one list and the rest of another.
use Rattle.std.proofs.Common.{◌≡◌, ℕ, zero, suc, ◌-◌, ◌<◌, ◌≤◌, List, [], ◌∷◌, ◌++◌, length, take, drop, get_or, refl, sym, ap, ◌∙◌, arith}
use Rattle.std.specs.List.{All}
use Rattle.torn_records.specs.Mixes.{mix}

pub mix_is : (n : ℕ) (xs ys : List ℕ) → length xs ≡ length ys → n ≤ length xs → mix n xs ys ≡ take n xs ++ drop n ys
mix_is zero xs ys e le = refl
mix_is (suc n) [] ys e le = absurd (omega arith)
mix_is (suc n) (x ∷ xs) [] e le = absurd (omega arith)
mix_is (suc n) (x ∷ xs) (y ∷ ys) e le = ap (λ (l : List ℕ). x ∷ l) (mix_is n xs ys (omega arith) (omega arith))

pub mix_same : (n : ℕ) (xs : List ℕ) → mix n xs xs ≡ xs
mix_same zero xs = refl
mix_same (suc n) [] = refl
mix_same (suc n) (x ∷ xs) = ap (λ (l : List ℕ). x ∷ l) (mix_same n xs)

pub mix_length : (n : ℕ) (xs ys : List ℕ) → length xs ≡ length ys → length (mix n xs ys) ≡ length ys
mix_length zero xs ys e = refl
mix_length (suc n) [] ys e = e
mix_length (suc n) (x ∷ xs) [] e = refl
mix_length (suc n) (x ∷ xs) (y ∷ ys) e = let ih = mix_length n xs ys (omega arith) in omega (arith, ih)

pub mix_all : (n : ℕ) (xs ys : List ℕ) → length xs ≡ length ys → length xs ≤ n → mix n xs ys ≡ xs
mix_all zero [] [] e le = refl
mix_all zero [] (y ∷ ys) e le = absurd (omega arith)
mix_all zero (x ∷ xs) ys e le = absurd (omega arith)
mix_all (suc n) [] ys e le = refl
mix_all (suc n) (x ∷ xs) [] e le = absurd (omega arith)
mix_all (suc n) (x ∷ xs) (y ∷ ys) e le = ap (λ (l : List ℕ). x ∷ l) (mix_all n xs ys (omega arith) (omega arith))

mix_append : (n : ℕ) (a b c d : List ℕ) → length a ≡ length b → mix n (a ++ c) (b ++ d) ≡ mix n a b ++ mix (n - length a) c d
mix_append zero a b c d e = let z : zero ≡ zero - length a = omega arith in ap (λ (k : ℕ). b ++ mix k c d) z
mix_append (suc n) [] [] c d e = let z : suc n ≡ suc n - zero = omega arith in ap (λ (k : ℕ). mix k c d) z
mix_append (suc n) [] (y ∷ b) c d e = absurd (omega arith)
mix_append (suc n) (x ∷ a) [] c d e = absurd (omega arith)
mix_append (suc n) (x ∷ a) (y ∷ b) c d e =
    let z : n - length a ≡ suc n - suc (length a) = omega arith in
    ap (λ (l : List ℕ). x ∷ l) (mix_append n a b c d (omega arith) ∙ ap (λ (k : ℕ). mix n a b ++ mix k c d) z)

-- two parts, each of which is mixed
pub join : (n : ℕ) (a b c d p q : List ℕ) → length a ≡ length b → p ≡ mix n a b → q ≡ mix (n - length a) c d → p ++ q ≡ mix n (a ++ c) (b ++ d)
join n a b c d p q e first second = ap (λ (l : List ℕ). l ++ q) first ∙ ap (λ (l : List ℕ). mix n a b ++ l) second ∙ sym (mix_append n a b c d e)

-- behind the front the second list goes on
pub mix_past : (n : ℕ) (xs ys : List ℕ) (i : ℕ) → length xs ≡ length ys → n ≤ i → get_or (mix n xs ys) i 0 ≡ get_or ys i 0
mix_past zero xs ys i e le = refl
mix_past (suc n) [] [] i e le = refl
mix_past (suc n) [] (y ∷ ys) i e le = absurd (omega arith)
mix_past (suc n) (x ∷ xs) [] i e le = absurd (omega arith)
mix_past (suc n) (x ∷ xs) (y ∷ ys) zero e le = absurd (omega arith)
mix_past (suc n) (x ∷ xs) (y ∷ ys) (suc i) e le = mix_past n xs ys i (omega arith) (omega arith)

pub mix_bytes : (n : ℕ) (xs ys : List ℕ) → ((i : ℕ) → get_or xs i 0 < 256) → ((i : ℕ) → get_or ys i 0 < 256) → (i : ℕ) → get_or (mix n xs ys) i 0 < 256
mix_bytes zero xs ys f g i = g i
mix_bytes (suc n) [] ys f g i = omega arith
mix_bytes (suc n) (x ∷ xs) [] f g i = omega arith
mix_bytes (suc n) (x ∷ xs) (y ∷ ys) f g zero = f zero
mix_bytes (suc n) (x ∷ xs) (y ∷ ys) f g (suc i) = mix_bytes n xs ys (λ k. f (suc k)) (λ k. g (suc k)) i

pub mix_each : (P : ℕ → Type 0) (n : ℕ) (xs ys : List ℕ) → All P xs → All P ys → All P (mix n xs ys)
mix_each P zero xs ys f g k d lt = g k d lt
mix_each P (suc n) [] ys f g k d lt = absurd (omega arith)
mix_each P (suc n) (x ∷ xs) [] f g k d lt = absurd (omega arith)
mix_each P (suc n) (x ∷ xs) (y ∷ ys) f g zero d lt = f zero d (omega arith)
mix_each P (suc n) (x ∷ xs) (y ∷ ys) f g (suc k) d lt = mix_each P n xs ys (λ j e l. f (suc j) e (omega arith)) (λ j e l. g (suc j) e (omega arith)) k d (omega arith)
