-- The values of a map from numbers.
use Rattle.std.specs.Prelude.{ℕ, List, map, reverse}

abbrev pub values : {T : Type 0} → List (ℕ × T) → List T
values entries = map (λ e. e.1) entries

-- in falling order of their numbers, of entries that rise
abbrev pub falling : {T : Type 0} → List (ℕ × T) → List T
falling entries = values (reverse entries)
