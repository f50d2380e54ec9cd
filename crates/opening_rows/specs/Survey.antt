-- The survey of a log.
use Rattle.std.specs.Prelude.{◌≡◌, ℕ, ◌+◌, ◌<◌, ◌≤◌, Bool, true, false, List, ◌++◌, length, Result, Ok, Err}
use Rattle.std.specs.List.{AllByRecursion}
use Rattle.ds_model.specs.declared.log.LogRecord.{LogRecord}
use Rattle.ds_model.specs.RecordBytes.{log_bytes, IsAllowed}
use Rattle.log_record.specs.declared.log.Log.{Log}
use Rattle.log_record.specs.Reading.{record_in}
use Rattle.log_record.specs.Logs.{Parts, parts_in, IsLogOf}
use Rattle.log_merge.specs.Merging.{RisesFrom}
use Rattle.log_head.specs.Heads.{HeadState, IsShort, IsOf, left_bytes}
use Rattle.disk_heads.specs.Records.{IsSound}
use Rattle.opening_rows.specs.Reading.{last_number}
use Rattle.opening_rows.specs.Pending.{is_pending}

-- the parts of a log of which these records were passed, up to this byte of it, by the parts of what follows
abbrev pub put_before : List LogRecord → ℕ → Result Parts ℕ → Result Parts ℕ
put_before records at (Ok p) = Ok (record { records = records ++ p.records; size = at + p.size; tail = p.tail })
put_before records at (Err field) = Err (at + field)

-- Records of a log were passed, whose numbers don't fall: the last of them, how many they are, and which transactions are pending, by those that
-- were before.
pub record IsPassed (log : List ℕ) (head : HeadState) (low count : ℕ) (before now : ℕ → Bool) : Type 0 where
  pub records : List LogRecord
  pub of : IsOf log head
  pub whole : head.end ≡ length log
  pub spelled : log ≡ log_bytes records ++ left_bytes log head
  pub allowed : AllByRecursion IsAllowed records
  pub at_is : head.at ≡ length (log_bytes records)
  pub parts : parts_in log ≡ put_before records head.at (parts_in (left_bytes log head))
  pub rises : RisesFrom 0 records
  pub low_is : low ≡ last_number 0 records
  pub count_is : count ≡ length records
  pub pending_are : (tran : ℕ) → now tran ≡ is_pending tran (before tran) records

-- one record more is counted, whose number isn't lower than the last
pub record IsCounted (low low_now count count_now : ℕ) (r : LogRecord) : Type 0 where
  pub rises : low ≤ r.lrsn
  pub low_is : low_now ≡ r.lrsn
  pub count_is : count_now ≡ count + 1

-- a record was passed, or there is none, so that the survey comes to its end
abbrev pub IsBehind : ℕ → ℕ → Bool → Type 0
IsBehind old new true = old < new
IsBehind old new false = Unit {0}

pub record GoesOn (old new : HeadState) (more : Bool) : Type 0 where
  pub behind : IsBehind old.at new.at more
  pub within : new.at ≤ new.end
  pub end_is : new.end ≡ old.end
  pub sound : IsSound new

-- where no record was passed, none is left
abbrev pub IsOver : List ℕ → HeadState → Bool → Type 0
IsOver log head true = Unit {0}
IsOver log head false = IsShort (record_in (left_bytes log head))

pub record Passes (log : List ℕ) (head : HeadState) (low count : ℕ) (before now : ℕ → Bool) (more : Bool) : Type 0 where
  pub passed : IsPassed log head low count before now
  pub over : IsOver log head more

-- The bytes are those of a log whose numbers don't fall: where its whole records end, how many they are, and which transactions are pending, by
-- those that were before.
pub record IsSurveyed (bytes : List ℕ) (end count : ℕ) (before now : ℕ → Bool) : Type 0 where
  pub log : Log
  pub is_log : IsLogOf bytes log
  pub rises : RisesFrom 0 log.records
  pub end_is : end ≡ log.length
  pub count_is : count ≡ length log.records
  pub pending_are : (tran : ℕ) → now tran ≡ is_pending tran (before tran) log.records
