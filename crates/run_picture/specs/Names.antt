-- Numbers by names.
use Rattle.std.specs.Prelude.{ℕ, if◌then◌else◌, List, Option, Some, None}
use Rattle.std.specs.Str.{bytes_eq}
use Rattle.std.specs.Ordering.{nat_cmp}
use Rattle.std.specs.Cmp.Lexicographic.{slice_cmp}
use Rattle.std.specs.BTreeMap.{get_by}
use Rattle.run_picture.specs.declared.names.NameNumbers.{NameNumbers}

unfoldable pub no_number : List ℕ → Option ℕ
no_number name = None

-- one name with a number of its own, in place of the one that it had
unfoldable pub with_number : List ℕ → ℕ → (List ℕ → Option ℕ) → List ℕ → Option ℕ
with_number name n numbers q = if bytes_eq q name then Some n else numbers q

-- the number that a name has
unfoldable pub number_of : NameNumbers → List ℕ → Option ℕ
number_of names name = get_by (λ k. slice_cmp nat_cmp name k.items) names.numbers
