-- Names as numbers: each name has one, and each number is a name's.
use Rattle.std.specs.Prelude.{◌≡◌, ℕ, zero, suc, ◌+◌, ◌*◌, ◌/◌, ◌%◌}
use Rattle.ds_model.specs.declared.lock.Name.{Name}
use Rattle.ds_model.specs.declared.lock.Name.TheVariants as name

-- pairs stand in rows by their sums, from (s, 0) to (0, s)
pub record Pair : Type 0 where
  pub first : ℕ
  pub second : ℕ

abbrev pub row_start : ℕ → ℕ
row_start zero = zero
row_start (suc s) = row_start s + suc s

abbrev pub pair_number : ℕ → ℕ → ℕ
pair_number a b = row_start (a + b) + b

abbrev pub next_pair : ℕ → ℕ → Pair
next_pair zero b = record { first = suc b; second = zero }
next_pair (suc a) b = record { first = a; second = suc b }

abbrev pub pair_at : ℕ → Pair
pair_at zero = record { first = zero; second = zero }
pair_at (suc n) = next_pair (pair_at n).first (pair_at n).second

unfoldable pub number : Name → ℕ
number (name.Space table) = table * 4 + 0
number (name.Row table key) = pair_number table key * 4 + 1
number (name.Page page) = pair_number page.set page.number * 4 + 2
number (name.Set set) = set * 4 + 3

abbrev pub name_of : ℕ → ℕ → Name
name_of zero rest = name.Space rest
name_of (suc zero) rest = name.Row (pair_at rest).first (pair_at rest).second
name_of (suc (suc zero)) rest = name.Page (record { set = (pair_at rest).first; number = (pair_at rest).second })
name_of (suc (suc (suc k))) rest = name.Set rest

unfoldable pub name_at : ℕ → Name
name_at c = name_of (c % 4) (c / 4)

pub record AreNumbered : Type 0 where
  pub named : (n : Name) → name_at (number n) ≡ n
  pub numbered : (c : ℕ) → number (name_at c) ≡ c
