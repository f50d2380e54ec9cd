-- Pixels rise with places.
use Rattle.std.proofs.Common.{ℕ, ◌+◌, ◌-◌, ◌*◌, ◌/◌, ◌^◌, ◌<◌, ◌≤◌, min, max, arith}
use Rattle.std.proofs.Math.Nat.{div-mul-le_self}
use Rattle.std.proofs.lemmas.Nat.{le-div}
use Rattle.run_picture.specs.declared.scale.Scale.{Scale}
use Rattle.run_picture.specs.Places.{across_of}

rises : (k a b : ℕ) → 0 < k → a ≤ b → a / k ≤ b / k
rises k a b some le =
    let below : a / k * k ≤ a = div-mul-le_self a k in
    let low : a / k * k ≤ b = omega (arith, below, le) in
    le-div (a / k) b k some low

capped : (a b c : ℕ) → a ≤ b → 76 + min a c ≤ 76 + min b c
capped a b c le = omega (arith, le)

scaled : (p q f c m : ℕ) → p ≤ q → min (min (p - f) c * 1190) m ≤ min (min (q - f) c * 1190) m
scaled p q f c m le = omega (arith, le)

pub in_order : (s : Scale) (p q : ℕ) → p ≤ q → across_of s p ≤ across_of s q
unfolding across_of
in_order s p q le = (capped _ _ 1190 (rises (max s.count 1) _ _ (omega arith) (scaled p q s.from s.count (2 ^ 64 - 1) le)))
