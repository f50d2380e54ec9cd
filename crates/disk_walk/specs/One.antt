-- One log that is read record by record, up to where its whole records end.
use Rattle.std.specs.Prelude.{◌≡◌, ℕ, ◌+◌, ◌≤◌, List, [], ◌∷◌, length, take, Option, None, Some, Result, Ok, Err}
use Rattle.ds_disk.specs.Contents.{Contents, log_of}
use Rattle.ds_disk.specs.declared.disk.DiskError.{DiskError}
use Rattle.ds_disk.specs.declared.disk.DiskError.TheVariants as errors
use Rattle.ds_model.specs.declared.log.LogRecord.{LogRecord}
use Rattle.ds_model.specs.RecordBytes.{record_bytes}
use Rattle.log_head.specs.Heads.{HeadState, IsOf, left_of}
use Rattle.log_head.specs.Whole.{whole_records}
use Rattle.log_volume.specs.declared.fault.LogFault.{LogFault}
use Rattle.log_volume.specs.declared.fault.LogFault.TheVariants as fault

-- the whole records of a log up to this byte
abbrev pub records_to : ℕ → List ℕ → List LogRecord
records_to end log = whole_records (take end log)

-- ---- the next record

-- behind damage no whole record is left
abbrev pub left_by : Result (Option LogRecord) LogFault → Result (Option LogRecord) DiskError
left_by (Ok next) = Ok next
left_by (Err fault.Failed) = Err errors.Failed
left_by (Err (fault.Damaged at)) = Ok None
left_by (Err fault.NoMemory) = Err errors.NoMemory

-- the record was the first of those that are left of the log, and those behind it are left now
pub record IsFollowed (log : List ℕ) (old new : HeadState) (r : LogRecord) : Type 0 where
  pub of : IsOf log new
  pub left_is : left_of log old ≡ r ∷ left_of log new
  pub at_is : new.at ≡ old.at + length (record_bytes r)

abbrev pub IsNextOf : List ℕ → HeadState → HeadState → Option LogRecord → Type 0
IsNextOf log old new None = left_of log old ≡ []
IsNextOf log old new (Some r) = IsFollowed log old new r

-- ---- what the records come to

-- of the records of the member's log up to this byte it holds, if the log has as many bytes
abbrev pub OfRecords : ℕ → ℕ → (List LogRecord → Type 0) → Contents → Type 0
OfRecords member end P c = end ≤ length (log_of c.logs member) → P (records_to end (log_of c.logs member))
