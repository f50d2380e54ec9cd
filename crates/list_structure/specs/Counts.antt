-- How many cells to a member are asked.
use Rattle.std.specs.Prelude.{ℕ, zero, suc, ◌≡◌, ◌+◌, ◌*◌, ◌<◌, Bool, true, false, List, length, slice_index, slice_index_or, if◌then◌else◌}
use Rattle.list_structure.specs.declared.query.Cell.{Cell}
use Rattle.list_structure.specs.Cells.{cell_at, is_asked}

abbrev pub one_if : Bool → ℕ
one_if true = 1
one_if false = 0

-- among the first n askers, how many wait for an answer of the member at this place
unfoldable pub asked_count : List Cell → ℕ → ℕ → ℕ
asked_count cells t zero = 0
asked_count cells t (suc n) = asked_count cells t n + one_if (is_asked (cell_at cells n t))

-- what the cells and their counts keep
pub record IsCounted (cells : List Cell) (counts : List ℕ) : Type 0 where
  pub cells_length : length cells ≡ 17408
  pub counts_length : length counts ≡ 32
  pub counted : (t : ℕ) → t < 32 → slice_index counts t ≡ asked_count cells t 544

-- by asked member, and for each of them by asker, whether the cell is asked
pub record IsMarked (cells : List Cell) (marks : List Bool) : Type 0 where
  pub marks_length : length marks ≡ 17408
  pub marked : (t i : ℕ) → t < 32 → i < 544 → slice_index_or marks (t * 544 + i) false ≡ is_asked (cell_at cells i t)
