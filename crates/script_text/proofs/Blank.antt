-- Marks that are all off.
use Rattle.std.proofs.Common.{◌≡◌, ℕ, zero, suc, false, get_or, replicate, refl}

pub blank : (m n : ℕ) → get_or (replicate m false) n false ≡ false
blank zero n = refl
blank (suc m) zero = refl
blank (suc m) (suc n) = blank m n
