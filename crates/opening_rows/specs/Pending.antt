-- The transactions that are pending: they have changed a row, and no Commit record of theirs stands behind it.
use Rattle.std.specs.Prelude.{ℕ, Bool, true, false, List, [], ◌∷◌, ◌==◌, if◌then◌else◌}
use Rattle.ds_model.specs.declared.log.LogRecord.{LogRecord}
use Rattle.ds_model.specs.declared.log.Body.{Body}
use Rattle.ds_model.specs.declared.log.Body.TheVariants as body

-- what a record of the transaction makes of it
abbrev pub pending_behind : Body → Bool → Bool
pending_behind body.Commit was = false
pending_behind (body.RowChange change) was = true
pending_behind (body.Compensation change undone) was = was
pending_behind (body.System patches) was = was
pending_behind body.Ended was = was
pending_behind (body.Checkpoint offset) was = was
pending_behind body.RestartEnd was = was

abbrev pub pending_by : ℕ → Bool → LogRecord → Bool
pending_by tran was r = if r.tran == tran then pending_behind r.body was else was

-- whether the transaction is pending behind these records, by whether it was before them
abbrev pub is_pending : ℕ → Bool → List LogRecord → Bool
is_pending tran was [] = was
is_pending tran was (r ∷ rs) = is_pending tran (pending_by tran was r) rs
