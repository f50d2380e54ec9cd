-- A list whose places are filled one after the other.
use Rattle.std.proofs.Common.{◌≡◌, ℕ, zero, suc, ◌+◌, ◌<◌, List, [], ◌∷◌, ◌++◌, length, set, drop, replicate, refl, ap, arith, add-one}

pub fill_more : {X : Type 0} → (x : X) (xs : List X) (at : ℕ) → at < length xs → set (replicate at x ++ drop at xs) at x ≡ replicate (at + 1) x ++ drop (at + 1) xs
fill_more x [] at l = absurd (omega (arith, l))
fill_more x (y ∷ ys) zero l = refl
fill_more x (y ∷ ys) (suc at) l = let ih = fill_more x ys at (omega (arith, l)) in rw add-one (ap (λ z. x ∷ z) (rw add-one at ih))
