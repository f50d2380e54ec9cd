-- The records that a group restart appends.
use Rattle.std.specs.Prelude.{◌≡◌, ℕ, Bool, true, false, List, [], ◌∷◌}
use Rattle.std.specs.List.{AllByRecursion}
use Rattle.ds_model.specs.declared.log.LogRecord.{LogRecord}
use Rattle.ds_model.specs.declared.log.Body.{Body}
use Rattle.ds_model.specs.declared.log.Body.TheVariants as body
use Rattle.ds_model.specs.declared.log.Version.TheVariants as version
use Rattle.ds_model.specs.RecordBytes.{Fits, IsAllowed, log_bytes}
use Rattle.log_record.specs.Changes.{inverse}
use Rattle.restart_plan.specs.declared.opened.Undo.{Undo}

-- compensations, the ends of transactions and of the restart, and Checkpoints
abbrev pub is_of_restart : Body → Bool
is_of_restart (body.RowChange change) = false
is_of_restart (body.Compensation change undone) = true
is_of_restart (body.System patches) = false
is_of_restart body.Commit = false
is_of_restart body.Ended = true
is_of_restart (body.Checkpoint offset) = true
is_of_restart body.RestartEnd = true

pub record IsOfRestart (r : LogRecord) : Type 0 where
  pub kind : is_of_restart r.body ≡ true
  pub fits : Fits r

-- the bytes are those of the records, each of which a restart may append
pub record AreSpelled (records : List LogRecord) (bytes : List ℕ) : Type 0 where
  pub spelled : bytes ≡ log_bytes records
  pub each : AllByRecursion IsOfRestart records
  pub allowed : AllByRecursion IsAllowed records

abbrev pub ended : ℕ → ℕ → LogRecord
ended lrsn tran = record { version = version.Two; lrsn = lrsn; tran = tran; body = body.Ended }

abbrev pub restart_end : ℕ → LogRecord
restart_end lrsn = record { version = version.Two; lrsn = lrsn; tran = 0; body = body.RestartEnd }

-- the log is read on from this byte
abbrev pub checkpoint : ℕ → ℕ → LogRecord
checkpoint lrsn offset = record { version = version.Two; lrsn = lrsn; tran = 0; body = body.Checkpoint offset }

-- what a log that ends at this byte gets behind all: the Checkpoint's offset is its own place
abbrev pub ending : ℕ → ℕ → List LogRecord
ending lrsn at = checkpoint lrsn at ∷ restart_end lrsn ∷ []

abbrev pub compensation : Undo → ℕ → LogRecord
compensation u lrsn = record { version = version.Two; lrsn = lrsn; tran = u.tran; body = body.Compensation (inverse u.change) u.lrsn }
