-- A log of whole records behind which bytes stand that are none, as an append leaves them that has stopped inside.
use Rattle.std.specs.Prelude.{◌≡◌, ℕ, ◌+◌, List, [], ◌++◌, length, take, Err}
use Rattle.std.specs.List.{AllByRecursion}
use Rattle.ds_model.specs.RecordBytes.{IsAllowed, log_bytes}
use Rattle.ds_model.specs.declared.log.LogRecord.{LogRecord}
use Rattle.log_record.specs.Reading.{record_in}
use Rattle.log_record.specs.declared.fault.RecordFault.TheVariants.{NotWhole}
use Rattle.log_reader.specs.Keeping.{AreWhole}
use Rattle.log_appends.specs.Appends.{AreLastFrom}

-- no bytes, or the begin of a record
abbrev pub IsRest : List ℕ → Type 0
IsRest rest = record_in rest ≡ Err NotWhole

abbrev pub NothingIsRest : Type 0
NothingIsRest = IsRest []

-- the last records of a log are last ones of its whole records
abbrev pub LastWithoutRest : Type 0
LastWithoutRest = (log rest : List ℕ) (start : ℕ) (records : List LogRecord) → AreWhole log → IsRest rest → AreLastFrom (log ++ rest) start records → AreLastFrom log start records

-- and those are last ones of the log
abbrev pub LastWithRest : Type 0
LastWithRest = (log rest : List ℕ) (start : ℕ) (records : List LogRecord) → AreWhole log → IsRest rest → AreLastFrom log start records → AreLastFrom (log ++ rest) start records

-- up to where the whole records go is told with the last ones, and how many bytes are the rest
abbrev pub RestIsTold : Type 0
RestIsTold = (log rest : List ℕ) (start : ℕ) (records : List LogRecord)
    → AreWhole log → IsRest rest → (last : AreLastFrom (log ++ rest) start records) → (start + last.parts.size ≡ length log) × (last.parts.tail ≡ length rest)

-- the last records of whole ones that are allowed are so, too
abbrev pub LastAreAllowed : Type 0
LastAreAllowed = (log : List ℕ) (start : ℕ) (records : List LogRecord) → AreWhole log → AreLastFrom log start records → AllByRecursion IsAllowed records

-- So many bytes of these records are a front of them, and then a rest.
pub record LeavesRest (new : List LogRecord) (n : ℕ) : Type 0 where
  pub front : List LogRecord
  pub left : List LogRecord
  pub rest : List ℕ
  pub split : new ≡ front ++ left
  pub bytes : take n (log_bytes new) ≡ log_bytes front ++ rest
  pub is_rest : IsRest rest

abbrev pub AppendsLeave : Type 0
AppendsLeave = (new : List LogRecord) (n : ℕ) → AllByRecursion IsAllowed new → LeavesRest new n
