-- The order in which places were used.
use Rattle.std.specs.Prelude.{ℕ, ◌≡◌, ◌<◌, nat_eq, nat_lt, Bool, true, false, not, slice_get, List, [], ◌∷◌, ◌++◌, filter}
use Rattle.std.specs.List.{list_any, list_all}
use Rattle.std.specs.Option.{option_map_or}

abbrev pub without : ℕ → List ℕ → List ℕ
without f order = filter (λ g. not (nat_eq f g)) order

-- the place is now the one that was used last
abbrev pub newest : ℕ → List ℕ → List ℕ
newest f order = without f order ++ f ∷ []

-- the place is now the one that was used longest ago
abbrev pub oldest : ℕ → List ℕ → List ℕ
oldest f order = f ∷ without f order

abbrev pub is_in : ℕ → List ℕ → Bool
is_in f order = list_any (nat_eq f) order

-- whether the place of this number may be taken
abbrev pub may_take : {T : Type 0} → (T → Bool) → List T → ℕ → Bool
may_take test places f = option_map_or test (slice_get places f) false

-- the order has each number below n, and nothing else
pub record IsOrderOf (n : ℕ) (order : List ℕ) : Type 0 where
  pub within : list_all (λ f. nat_lt f n) order ≡ true
  pub covers : (f : ℕ) → f < n → is_in f order ≡ true
