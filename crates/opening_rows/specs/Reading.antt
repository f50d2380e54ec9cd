-- How logs are read.
use Rattle.std.specs.Prelude.{◌≡◌, ◌⊎◌, ℕ, ◌+◌, ◌<◌, ◌≤◌, List, [], ◌∷◌, ◌++◌, length, Option, Result, Err, IfOk, IsErrOf}
use Rattle.std.specs.List.{AllByRecursion}
use Rattle.ds_base.specs.Causes.{Rose}
use Rattle.ds_disk.specs.Contents.{Contents, log_of, WhenTold, Becomes, Same}
use Rattle.ds_model.specs.declared.log.LogRecord.{LogRecord}
use Rattle.ds_model.specs.RecordBytes.{record_bytes, log_bytes, IsAllowed}
use Rattle.log_record.specs.declared.log.Log.{Log}
use Rattle.log_record.specs.Logs.{parts_in, IsLogOf}
use Rattle.log_volume.specs.declared.fault.LogFault.{LogFault}
use Rattle.log_volume.specs.declared.fault.LogFault.TheVariants as one
use Rattle.opening_rows.specs.declared.fault.LogsFault.{LogsFault}
use Rattle.opening_rows.specs.declared.fault.LogsFault.TheVariants.{Failed, Damaged, NoMemory}

-- each log has the records, the length and the tail of its bytes
abbrev pub AreLogsOf : List (List ℕ) → List Log → Type 0
AreLogsOf [] [] = Unit {0}
AreLogsOf [] (log ∷ logs) = ⊥
AreLogsOf (bytes ∷ rest) [] = ⊥
AreLogsOf (bytes ∷ rest) (log ∷ logs) = IsLogOf bytes log × AreLogsOf rest logs

-- the member's log has a field at this byte that isn't allowed
abbrev pub HasDamage : ℕ → ℕ → Contents → Type 0
HasDamage member at c = parts_in (log_of c.logs member) ≡ Err at

-- what was read is the disk's, where it tells what it holds; or a log is damaged, or a call failed, as the disk counted; and nothing
-- has changed
pub record Reads {T : Type 0} (before after : Option Contents) (faults faults_now : ℕ) (Is : T → Contents → Type 0) (result : Result T LogsFault) : Type 0 where
  pub ok : IfOk result (λ x. WhenTold before (Is x))
  pub damaged : (member at : ℕ) → IsErrOf result (Damaged member at) → WhenTold before (HasDamage member at)
  pub failed : IsErrOf result Failed → Rose faults faults_now
  pub same : Becomes before after Same
  pub later : faults ≤ faults_now

-- ---- logs that are read by blocks

-- the fault of the member's log as one of the logs
abbrev pub fault_in : ℕ → LogFault → LogsFault
fault_in member one.Failed = Failed
fault_in member (one.Damaged at) = Damaged member at
fault_in member one.NoMemory = NoMemory

-- the number of the last of the records, or of none this one
abbrev pub last_number : ℕ → List LogRecord → ℕ
last_number low [] = low
last_number low (r ∷ rs) = last_number r.lrsn rs

-- a record's number stands behind its length, its kind and its version
abbrev pub number_at : ℕ
number_at = 6

-- the number that begins at this byte of a log is lower than that of the record before
pub record FallsAt (bytes : List ℕ) (at : ℕ) : Type 0 where
  pub records : List LogRecord
  pub it : LogRecord
  pub rest : List ℕ
  pub split : bytes ≡ log_bytes records ++ (record_bytes it ++ rest)
  pub allowed : AllByRecursion IsAllowed records × IsAllowed it
  pub falls : it.lrsn < last_number 0 records
  pub place : at ≡ length (log_bytes records) + number_at

-- the member's log has a field at this byte that isn't allowed, or a number that falls
abbrev pub BreaksAt : ℕ → ℕ → Contents → Type 0
BreaksAt member at c = HasDamage member at c ⊎ FallsAt (log_of c.logs member) at

-- what was read is the disk's, where it tells what it holds; or a log is damaged so, or a call failed, as the disk counted; and nothing has
-- changed
pub record ReadsBy {T : Type 0} (before after : Option Contents) (faults faults_now : ℕ) (Is : T → Contents → Type 0) (IsBad : ℕ → ℕ → Contents → Type 0) (result : Result T LogsFault) : Type 0 where
  pub ok : IfOk result (λ x. WhenTold before (Is x))
  pub damaged : (member at : ℕ) → IsErrOf result (Damaged member at) → WhenTold before (IsBad member at)
  pub failed : IsErrOf result Failed → Rose faults faults_now
  pub same : Becomes before after Same
  pub later : faults ≤ faults_now
