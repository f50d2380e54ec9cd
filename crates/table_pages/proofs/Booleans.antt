-- Tests that are all true.
use Rattle.std.proofs.Common.{◌≡◌, ℕ, suc, ◌<◌, ◌≤◌, Bool, true, false, not, ◌&&◌, Option, Some, None, is_none, refl, sym, ap, arith}
use Rattle.std.specs.Prelude.{◌==◌, nat_le, nat_lt}
use Rattle.std.proofs.lemmas.Bool.Decides.{nat_tests}
use Rattle.table_pages.specs.Kinds.{both_or_neither}

pub decide : (b : Bool) (P : Type 0) → (b ≡ true → P) → (b ≡ false → P) → P
decide true P f g = f refl
decide false P f g = g refl

pub and_left : (a b : Bool) → (a && b) ≡ true → a ≡ true
and_left true b h = refl
and_left false b h = h

pub and_right : (a b : Bool) → (a && b) ≡ true → b ≡ true
and_right true b h = h
and_right false b h = absurd cc

pub and_both : (a b : Bool) → a ≡ true → b ≡ true → (a && b) ≡ true
and_both true b h k = k
and_both false b h k = h

pub equal : (m n : ℕ) → (m == n) ≡ true → m ≡ n
equal m n h = grind (arith, nat_tests)

pub itself : (n : ℕ) → (n == n) ≡ true
itself n = grind (arith, nat_tests)

pub le_of : (m n : ℕ) → nat_le m n ≡ true → m ≤ n
le_of m n h = grind (arith, nat_tests)

pub of_le : (m n : ℕ) → m ≤ n → nat_le m n ≡ true
of_le m n h = grind (arith, nat_tests)

pub lt_of : (m n : ℕ) → nat_lt m n ≡ true → m < n
lt_of m n h = grind (arith, nat_tests)

pub of_lt : (m n : ℕ) → m < n → nat_lt m n ≡ true
of_lt m n h = grind (arith, nat_tests)

pub none_of : (o : Option ℕ) → is_none o ≡ true → o ≡ None
none_of None h = refl
none_of (Some n) h = absurd cc

pub below : (s n : ℕ) → nat_lt s n ≡ true → s < n
below s n h = grind (arith, nat_tests)

pub last_of : (s n : ℕ) → s < suc n → nat_lt s n ≡ false → s ≡ n
last_of s n lt h = grind (arith, nat_tests)

pub both_same : (a b : Bool) → both_or_neither a b ≡ true → a ≡ b
both_same true b h = sym h
both_same false true h = absurd cc
both_same false false h = refl

pub same_both : (a b : Bool) → a ≡ b → both_or_neither a b ≡ true
same_both true b h = sym h
same_both false b h = ap not (sym h)
