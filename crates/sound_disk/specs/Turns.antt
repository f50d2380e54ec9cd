-- The fifth clause of a sound disk, one transaction at a time: a row that a transaction changed is changed by another only when that change is
-- settled.
use Rattle.std.specs.Prelude.{◌≡◌, ℕ, ◌==◌, Bool, true, false, not, ◌&&◌, ◌||◌, List, [], ◌∷◌, ◌++◌}
use Rattle.std.specs.List.{list_all}
use Rattle.ds_model.specs.declared.log.LogRecord.{LogRecord}
use Rattle.ds_model.specs.declared.log.RowChange.{RowChange}
use Rattle.ds_model.specs.declared.log.Body.{Body}
use Rattle.ds_model.specs.declared.log.Body.TheVariants as body
use Rattle.log_record.specs.declared.log.Log.{Log}
use Rattle.sound_disk.specs.Settled.{is_settled}
use Rattle.sound_disk.specs.Versions.{merged}

abbrev pub same_row : RowChange → RowChange → Bool
same_row c d = (c.table == d.table) && (c.key == d.key)

-- a transaction changed this row by the record
abbrev pub changes_row : RowChange → Body → Bool
changes_row c (body.RowChange d) = same_row c d
changes_row c (body.Compensation d undone) = false
changes_row c (body.System patches) = false
changes_row c body.Commit = false
changes_row c body.Ended = false
changes_row c (body.Checkpoint offset) = false
changes_row c body.RestartEnd = false

-- the earlier record lets the transaction change the row: it is no other's change of it, or is settled by then
abbrev pub lets : List LogRecord → ℕ → RowChange → LogRecord → Bool
lets earlier tran c s = not (changes_row c s.body) || (s.tran == tran) || is_settled earlier s

-- all earlier records do, where the record is a row change
abbrev pub is_in_turn : List LogRecord → ℕ → Body → Bool
is_in_turn earlier tran (body.RowChange c) = list_all (λ (s : LogRecord). lets earlier tran c s) earlier
is_in_turn earlier tran (body.Compensation c undone) = true
is_in_turn earlier tran (body.System patches) = true
is_in_turn earlier tran body.Commit = true
is_in_turn earlier tran body.Ended = true
is_in_turn earlier tran (body.Checkpoint offset) = true
is_in_turn earlier tran body.RestartEnd = true

-- each of the records is in turn behind those before it
abbrev pub are_in_turn : List LogRecord → List LogRecord → Bool
are_in_turn earlier [] = true
are_in_turn earlier (r ∷ rs) = is_in_turn earlier r.tran r.body && are_in_turn (earlier ++ r ∷ []) rs

-- by the numbers of the records of all logs
abbrev pub ChangeInTurn : List Log → Type 0
ChangeInTurn logs = are_in_turn [] (merged logs) ≡ true
