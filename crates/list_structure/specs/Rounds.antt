-- A round over the askers of queries to a member.
use Rattle.std.specs.Prelude.{ℕ, ◌≡◌, ◌+◌, ◌≤◌, ◌<◌, true, false, nat_lt, List, Option, Some, None, if◌then◌else◌}
use Rattle.list_structure.specs.declared.query.Asker.{Asker}
use Rattle.list_structure.specs.declared.query.Cell.{Cell}
use Rattle.list_structure.specs.declared.query.Cell.TheVariants.{Asked}
use Rattle.list_structure.specs.declared.query.Query.{Query}
use Rattle.list_structure.specs.Askers.{place_of}
use Rattle.list_structure.specs.Cells.{cell_at, is_asked}

abbrev pub start_of : Option Asker → ℕ
start_of None = 0
start_of (Some after) = place_of after + 1

-- when the turn of a place comes in a round from the start on
abbrev pub turn_from : ℕ → ℕ → ℕ
turn_from start i = if nat_lt i start then i + 544 else i

-- the place whose turn comes first among those with asked cells
abbrev pub IsNextAsked : List Cell → ℕ → ℕ → Option ℕ → Type 0
IsNextAsked cells start t None = (i : ℕ) → i < 544 → is_asked (cell_at cells i t) ≡ false
IsNextAsked cells start t (Some found) =
    (found < 544) × (is_asked (cell_at cells found t) ≡ true)
    × ((i : ℕ) → i < 544 → is_asked (cell_at cells i t) ≡ true → turn_from start found ≤ turn_from start i)

abbrev pub query_in : Cell → Asker → Option Query
query_in (Asked name mode) asker = Some (record { asker = asker; name = name; mode = mode })
query_in _ asker = None
