-- The first record that breaks what logs keep to.
use Rattle.std.specs.Prelude.{◌≡◌, ℕ, List, [], ◌∷◌, ◌++◌, length}
use Rattle.ds_model.specs.declared.log.LogRecord.{LogRecord}
use Rattle.ds_model.specs.RecordBytes.{log_bytes}
use Rattle.log_record.specs.declared.log.Log.{Log}
use Rattle.disk_spots.specs.declared.spot.Spot.{Spot}
use Rattle.disk_spots.specs.declared.spot.Spot.TheVariants as spot

-- the log up to a record
abbrev pub cut_to : Log → List LogRecord → Log
cut_to log records = record { member = log.member; records = records; length = length (log_bytes records); tail = 0 }

-- P holds of the logs up to this record, and no more with it: by the order of the logs, and in each by the order of its records
pub record IsFirstBreach (P : List Log → Type 0) (logs : List Log) (member at : ℕ) : Type 0 where
  pub front : List Log
  pub log : Log
  pub back : List Log
  pub split : logs ≡ front ++ log ∷ back
  pub before : List LogRecord
  pub it : LogRecord
  pub behind : List LogRecord
  pub records_are : log.records ≡ before ++ it ∷ behind
  pub holds : P (front ++ cut_to log before ∷ [])
  pub breaks : P (front ++ cut_to log (before ++ it ∷ []) ∷ []) → ⊥
  pub member_is : member ≡ log.member
  pub place : at ≡ length (log_bytes before)

-- the spot is that of a record, by its member and its first byte
abbrev pub IsRecordOf : (ℕ → ℕ → Type 0) → Spot → Type 0
IsRecordOf P (spot.Page id) = ⊥
IsRecordOf P (spot.Log member at) = P member at
