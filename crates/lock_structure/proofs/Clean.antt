-- The answers of other members, one after the other.
use Rattle.std.proofs.Common.{◌≡◌, ℕ, zero, suc, ◌+◌, ◌<◌, refl, arith, List, [], ◌∷◌, length, drop, get_or, add-one, ◌==◌}
use Rattle.std.specs.Prelude.{◌&&◌, ◌||◌}
use Rattle.lock_structure.specs.Locks.{is_clean}

pub clean_step : (xs : List (ℕ × ℕ)) (i : ℕ) (d : ℕ × ℕ) (k v : ℕ) → i < length xs → is_clean (drop i xs) k v ≡ ((((get_or xs i d).0 == k) && ((get_or xs i d).1 == v)) || is_clean (drop (i + 1) xs) k v)
clean_step [] i d k v h = absurd (omega arith)
clean_step (x ∷ xs) zero d k v h = refl
clean_step (x ∷ xs) (suc i) d k v h = let ih = clean_step xs i d k v (omega arith) in rw add-one (rw add-one at ih)
