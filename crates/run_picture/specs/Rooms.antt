-- The rows of lanes, each by the pixel where its last bar with its name ends.
use Rattle.std.specs.Prelude.{ℕ, nat_lt, List, [], ◌∷◌, ◌++◌, length, map, Option, Some, None, slice_index_or, slice_set}
use Rattle.std.specs.List.{position}
use Rattle.run_picture.specs.declared.rows.Rows.{Rows}

abbrev pub ends_in : Rows → List (List ℕ)
ends_in rows = map (λ r. r.items) rows.ends.items

abbrev pub ends_of : List (List ℕ) → ℕ → List ℕ
ends_of lanes member = slice_index_or lanes member []

-- the first row whose last bar ends left of a pixel
abbrev pub free_row : ℕ → List ℕ → Option ℕ
free_row from ends = position (λ (end : ℕ). nat_lt end from) ends

abbrev pub row_in : Option ℕ → List ℕ → ℕ
row_in None ends = length ends
row_in (Some row) ends = row

abbrev pub filled : Option ℕ → ℕ → List ℕ → List ℕ
filled None to ends = ends ++ to ∷ []
filled (Some row) to ends = slice_set ends row to

-- where there is none, a new one
unfoldable pub row_for : ℕ → List ℕ → ℕ
row_for from ends = row_in (free_row from ends) ends

unfoldable pub with_bar : ℕ → ℕ → List ℕ → List ℕ
with_bar from to ends = filled (free_row from ends) to ends
