-- The rows of the tables of a range as records leave them.
use Rattle.std.specs.Prelude.{◌≡◌, ℕ, Bool, true, false, if◌then◌else◌, List, Option, None, Some}
use Rattle.std.specs.Str.{bytes_eq}
use Rattle.ds_model.specs.declared.log.LogRecord.{LogRecord}
use Rattle.ds_model.specs.declared.log.Body.{Body}
use Rattle.ds_model.specs.declared.log.Body.TheVariants as body
use Rattle.ds_model.specs.Rows.{Rows}
use Rattle.ds_model.specs.Logs.{set_row}
use Rattle.redone_pages.specs.Ranges.{has_table}
use Rattle.sound_disk.specs.Rows_there.{row_after}
use Rattle.heap_rows.specs.declared.left.LeftRows.{LeftRows}
use Rattle.heap_rows.specs.Maps.{rows_in}

abbrev pub same_row : Option (List ℕ) → Option (List ℕ) → Bool
same_row None None = true
same_row None (Some b) = false
same_row (Some a) None = false
same_row (Some a) (Some b) = bytes_eq a b

-- a row of these tables is changed
abbrev pub set_in : (ℕ → Bool) → Rows → ℕ → ℕ → Option (List ℕ) → Rows
set_in has rows table key after = if has table then set_row rows table key after else rows

-- after a record of which the changes of rows of these tables count
abbrev pub left_with : (ℕ → Bool) → Rows → Body → Rows
left_with has rows (body.RowChange c) = set_in has rows c.table c.key c.after
left_with has rows (body.Compensation c undone) = set_in has rows c.table c.key c.after
left_with has rows (body.System patches) = rows
left_with has rows body.Commit = rows
left_with has rows body.Ended = rows
left_with has rows (body.Checkpoint offset) = rows
left_with has rows body.RestartEnd = rows

-- the map has the row of each key of these tables that the records left
abbrev pub AreRowsOf : (ℕ → Bool) → List LogRecord → Rows → Type 0
AreRowsOf has records rows = (table key : ℕ) → has table ≡ true → rows_in rows table key ≡ row_after records table key

-- these are the rows of the range behind these records
abbrev pub AreLeft : List LogRecord → LeftRows → Type 0
AreLeft records it = AreRowsOf (has_table it.range) records it.rows
