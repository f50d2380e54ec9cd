-- Which choice is the least that is ready.
use Rattle.std.proofs.Common.{◌≡◌, ℕ, ◌≤◌, Bool, false, ◌&&◌, ap, arith}
use Rattle.std.specs.Prelude.{nat_lt, ◌/◌, ◌%◌, ◌^◌, ◌==◌}
use Rattle.choice_bits.specs.Choices.{has_choice}

not_below : (k : ℕ) → 23 ≤ k → nat_lt k 23 ≡ false
not_below k past = grind arith

-- there are no more choices
pub past_all : (ready k : ℕ) → 23 ≤ k → has_choice ready k ≡ false
past_all ready k past = ap (λ (b : Bool). b && ((ready / 2 ^ k) % 2 == 1)) (not_below k past)
