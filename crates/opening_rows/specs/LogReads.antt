-- How a log is read to its end, and of what was read its records are taken.
use Rattle.std.specs.Prelude.{◌≡◌, ℕ, Bool, List, ◌++◌, length}
use Rattle.std.specs.List.{AllByRecursion}
use Rattle.ds_model.specs.declared.log.LogRecord.{LogRecord}
use Rattle.ds_model.specs.RecordBytes.{log_bytes, IsAllowed}
use Rattle.log_record.specs.declared.log.Log.{Log}
use Rattle.log_record.specs.Logs.{parts_in, IsLogOf}
use Rattle.log_head.specs.Heads.{HeadState, IsOf, left_bytes}
use Rattle.opening_rows.specs.Survey.{put_before, IsOver}
use Rattle.opening_rows.specs.declared.taken.Taken.{Taken}
use Rattle.opening_rows.specs.declared.reading.LogRead.{LogRead}
use Rattle.opening_rows.specs.Kept.{HasTaken}

-- the records up to where the log is read were taken
pub record IsReadTo (log : List ℕ) (keeps : ℕ → Bool) (had : ℕ) (head : HeadState) (t : Taken) : Type 0 where
  pub records : List LogRecord
  pub of : IsOf log head
  pub spelled : log ≡ log_bytes records ++ left_bytes log head
  pub allowed : AllByRecursion IsAllowed records
  pub at_is : head.at ≡ length (log_bytes records)
  pub parts : parts_in log ≡ put_before records head.at (parts_in (left_bytes log head))
  pub taken : HasTaken keeps had records t

-- and where none was taken, none is left
pub record GoesTo (log : List ℕ) (keeps : ℕ → Bool) (had : ℕ) (head : HeadState) (t : Taken) (more : Bool) : Type 0 where
  pub read : IsReadTo log keeps had head t
  pub over : IsOver log head more

-- what was taken of a log, and how many bytes follow its whole records
pub record IsRead (keeps : ℕ → Bool) (had : ℕ) (log : Log) (r : LogRead) : Type 0 where
  pub taken : HasTaken keeps had log.records r.taken
  pub tail_is : r.tail ≡ log.tail

-- the same of the log of these bytes
pub record IsReadOf (keeps : ℕ → Bool) (had : ℕ) (bytes : List ℕ) (r : LogRead) : Type 0 where
  pub log : Log
  pub is_log : IsLogOf bytes log
  pub read : IsRead keeps had log r
