-- The first of the frames that passes a test.
use Rattle.std.proofs.Common.{◌≡◌, ℕ, zero, suc, ◌+◌, ◌<◌, refl, arith, List, [], ◌∷◌, length, drop, get_or, add-one}
use Rattle.std.specs.Prelude.{Bool, Option, Some, None, cond, find}

pub find_step : (test : ℕ → Bool) (xs : List ℕ) (i : ℕ) (d : ℕ) → i < length xs → find test (drop i xs) ≡ cond (test (get_or xs i d)) (Some (get_or xs i d)) (find test (drop (i + 1) xs))
find_step test [] i d h = absurd (omega arith)
find_step test (x ∷ xs) zero d h = refl
find_step test (x ∷ xs) (suc i) d h = let ih = find_step test xs i d (omega arith) in rw add-one (rw add-one at ih)
