-- The rows that records leave, as a map, and what a slot says against it.
use Rattle.std.specs.Prelude.{◌≡◌, ℕ, Bool, true, false, List, [], ◌∷◌, Option, None, Some, is_none}
use Rattle.std.specs.Str.{bytes_eq}
use Rattle.std.specs.FinMap as finite
use Rattle.ds_model.specs.declared.log.LogRecord.{LogRecord}
use Rattle.ds_model.specs.declared.log.Body.{Body}
use Rattle.ds_model.specs.declared.log.Body.TheVariants as body
use Rattle.ds_model.specs.Rows.{Rows}
use Rattle.ds_model.specs.Logs.{set_row}
use Rattle.heap_space.specs.Slots.{Content}
use Rattle.sound_disk.specs.Rows_there.{row_after}

-- the rows of a table by key
abbrev pub rows_in : Rows → ℕ → ℕ → Option (List ℕ)
rows_in rows table = λ key. finite.get rows (table, key)

abbrev pub is_value : Option (List ℕ) → List ℕ → Bool
is_value None value = false
is_value (Some row) value = bytes_eq row value

-- a slot that was given has the row of its key
abbrev pub agrees : (ℕ → Option (List ℕ)) → Content → Bool
agrees row None = true
agrees row (Some (key, None)) = is_none (row key)
agrees row (Some (key, Some value)) = is_value (row key) value
