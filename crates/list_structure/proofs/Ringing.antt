-- Bells that have all rung equally often.
use Rattle.std.proofs.Common.{◌≡◌, ℕ, ◌-◌, ◌+◌, ◌<◌, ◌≤◌, ◌^◌, replicate, inl, inr, arith}
use Rattle.std.proofs.lemmas.Bool.{cases_lt}
use Rattle.std.proofs.lemmas.List.{get_or_past, get_or-replicate, length-replicate}
use Rattle.list_structure.specs.Bells.{bell_of, CanRing}

pub bell_at : (n m : ℕ) → m - 1 < 32 → bell_of (replicate 32 n) m ≡ n
bell_at n m l = get_or-replicate 32 (m - 1) n 0 l

bell_past : (n m : ℕ) → 32 ≤ m - 1 → bell_of (replicate 32 n) m ≡ 0
bell_past n m g = get_or_past (replicate 32 n) (m - 1) 0 (omega (arith, g, length-replicate 32 n))

pub all_can_ring : (n : ℕ) → n < 2 ^ 64 - 1 → CanRing (replicate 32 n)
all_can_ring n l m = elim (cases_lt (m - 1) 32) [ inl i ↦ omega (arith, l, bell_at n m i) | inr g ↦ omega (arith, l, bell_past n m (omega (arith, g))) ]

pub one_can_ring : (n : ℕ) → CanRing (replicate 32 n) → n < 2 ^ 64 - 1
one_can_ring n c = omega (arith, c 1, bell_at n 1 (omega arith))

pub silent : (m : ℕ) → bell_of (replicate 32 0) m ≡ 0
silent m = elim (cases_lt (m - 1) 32) [ inl i ↦ bell_at 0 m i | inr g ↦ bell_past 0 m (omega (arith, g)) ]
