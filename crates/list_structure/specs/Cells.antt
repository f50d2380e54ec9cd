-- The cells of queries, one for each asker and each member that it may ask.
use Rattle.std.specs.Prelude.{ℕ, ◌≡◌, ◌-◌, ◌+◌, ◌*◌, ◌≤◌, ◌==◌, Bool, true, false, ◌&&◌, ◌||◌, List, take, drop, slice_index_or, Option, Some, None, if◌then◌else◌}
use Rattle.ds_base.specs.Ids.{IsMember}
use Rattle.list_structure.specs.declared.query.Asker.{Asker}
use Rattle.list_structure.specs.declared.query.Cell.{Cell}
use Rattle.list_structure.specs.declared.query.Cell.TheVariants.{Empty, Asked, Answered}
use Rattle.list_structure.specs.declared.query.Query.{Query}
use Rattle.list_structure.specs.Askers.{IsAsker, same_asker, place_of, turn_of}

-- the cells stand by asker, and for each asker by asked member
abbrev pub cell_at : List Cell → ℕ → ℕ → Cell
cell_at cells asker asked = slice_index_or cells (asker * 32 + asked) Empty

-- the cell of the asker to the member
abbrev pub cell_of : List Cell → Asker → ℕ → Cell
cell_of cells asker to = cell_at cells (place_of asker) (to - 1)

-- the cells of the asker at this place, by asked member
unfoldable pub cells_at : List Cell → ℕ → List Cell
cells_at cells asker = take 32 (drop (asker * 32) cells)

-- the asker's cells, by asked member
abbrev pub cells_by : List Cell → Asker → List Cell
cells_by cells asker = cells_at cells (place_of asker)

-- each asker's cell to each member is as the function says
abbrev pub AreCells : List Cell → (Asker → ℕ → Cell) → Type 0
AreCells cells f = (a : Asker) (m : ℕ) → IsAsker a → IsMember m → cell_of cells a m ≡ f a m

abbrev pub is_asked : Cell → Bool
is_asked (Asked name mode) = true
is_asked _ = false

-- one cell is set, and every other stays
abbrev pub with_cell : List Cell → Asker → ℕ → Cell → Asker → ℕ → Cell
with_cell cells asker to cell a m = if same_asker a asker && (m == to) then cell else cell_of cells a m

-- the asker's cells are empty, and every other stays
abbrev pub emptied : List Cell → Asker → Asker → ℕ → Cell
emptied cells asker a m = if same_asker a asker then Empty else cell_of cells a m

-- the member's cells and those to it are empty, and every other stays
abbrev pub without_member : List Cell → ℕ → Asker → ℕ → Cell
without_member cells member a m = if (a.member == member) || (m == member) then Empty else cell_of cells a m

-- no asker waits for an answer of the member
abbrev pub NoneAsked : List Cell → ℕ → Type 0
NoneAsked cells member = (a : Asker) → IsAsker a → is_asked (cell_of cells a member) ≡ false

-- the query to the member whose turn comes first
abbrev pub IsNextQuery : List Cell → ℕ → Option Asker → Option Query → Type 0
IsNextQuery cells member after None = NoneAsked cells member
IsNextQuery cells member after (Some q) =
    IsAsker q.asker × (cell_of cells q.asker member ≡ Asked q.name q.mode)
    × ((a : Asker) → IsAsker a → is_asked (cell_of cells a member) ≡ true → turn_of after q.asker ≤ turn_of after a)
