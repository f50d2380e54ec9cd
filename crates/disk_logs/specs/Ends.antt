-- Where the whole records of logs end, which are read by blocks.
use Rattle.std.specs.Prelude.{◌≡◌, ℕ, ◌<◌, ◌≤◌, Bool, true, false, List, ◌++◌, length, drop, map}
use Rattle.std.specs.List.{AllByRecursion}
use Rattle.ds_model.specs.declared.log.LogRecord.{LogRecord}
use Rattle.ds_model.specs.RecordBytes.{log_bytes, IsAllowed}
use Rattle.log_record.specs.declared.log.Log.{Log}
use Rattle.log_merge.specs.Merging.{RisesFrom}
use Rattle.log_record.specs.Reading.{record_in}
use Rattle.log_head.specs.Heads.{HeadState, IsShort, IsOf, left_bytes}
use Rattle.disk_heads.specs.Records.{IsSound}
use Rattle.sound_disk.specs.Laws.{last_number}
use Rattle.sound_disk.specs.Whole_logs.{IsWholeLog, AreWholeLogs}
use Rattle.whole_logs.specs.Breaks.{BreaksOff}
use Rattle.disk_logs.specs.Broken.{IsFirstBroken}
use Rattle.disk_logs.specs.declared.ends.Step.{Step}
use Rattle.disk_logs.specs.declared.ends.Step.TheVariants as step
use Rattle.disk_logs.specs.declared.ends.LogEnd.{LogEnd}
use Rattle.disk_logs.specs.declared.ends.LogEnd.TheVariants as end
use Rattle.disk_logs.specs.declared.ends.Ends.{Ends}
use Rattle.disk_logs.specs.declared.ends.Ends.TheVariants as ends

-- ---- one log

-- records of the log were passed up to where it is read, whose numbers don't fall, and this is the last of them
pub record IsPassed (log : List ℕ) (head : HeadState) (low : ℕ) : Type 0 where
  pub records : List LogRecord
  pub of : IsOf log head
  pub whole : head.end ≡ length log
  pub spelled : log ≡ log_bytes records ++ left_bytes log head
  pub allowed : AllByRecursion IsAllowed records
  pub at_is : head.at ≡ length (log_bytes records)
  pub rises : RisesFrom 0 records
  pub low_is : low ≡ last_number 0 records

-- and no whole record is left
pub record IsOver (log : List ℕ) (head : HeadState) (low : ℕ) : Type 0 where
  pub passed : IsPassed log head low
  pub short : IsShort (record_in (left_bytes log head))

-- so, or none is left, or the log breaks off there
abbrev pub Passes : List ℕ → HeadState → ℕ → Step → Type 0
Passes log head low step.On = IsPassed log head low
Passes log head low step.Over = IsOver log head low
Passes log head low (step.Broken at) = BreaksOff log at

-- a record with this number, which begins at this byte, is passed unless it is lower than the one before
abbrev pub IsCounted : ℕ → ℕ → ℕ → ℕ → Step → Type 0
IsCounted low now at number step.On = (low ≤ number) × (now ≡ number)
IsCounted low now at number step.Over = ⊥
IsCounted low now at number (step.Broken place) = (number < low) × (place ≡ at)

-- where a record was passed reading goes on behind it
pub record IsFurther (old new : HeadState) : Type 0 where
  pub behind : old.at < new.at
  pub within : new.at ≤ new.end
  pub end_is : new.end ≡ old.end
  pub sound : IsSound new

abbrev pub GoesOn : HeadState → HeadState → Step → Type 0
GoesOn old new step.On = IsFurther old new
GoesOn old new step.Over = Unit {0}
GoesOn old new (step.Broken at) = Unit {0}

-- the bytes of the log up to this one are whole records, whose numbers never fall, and no whole record is left there
pub record ArePassedTo (log : List ℕ) (at : ℕ) : Type 0 where
  pub records : List LogRecord
  pub spelled : log ≡ log_bytes records ++ drop at log
  pub allowed : AllByRecursion IsAllowed records
  pub at_is : at ≡ length (log_bytes records)
  pub rises : RisesFrom 0 records
  pub short : IsShort (record_in (drop at log))

-- that far it was passed, or it breaks off
abbrev pub IsReached : List ℕ → LogEnd → Type 0
IsReached log (end.Whole at) = ArePassedTo log at
IsReached log (end.Broken at) = BreaksOff log at

-- the member's log is a whole one, and its records end here
pub record IsWholeTo (member : ℕ) (bytes : List ℕ) (end : ℕ) : Type 0 where
  pub log : Log
  pub is : IsWholeLog member bytes log
  pub end_is : end ≡ log.length

-- how the member's log ends
abbrev pub IsEnd : ℕ → List ℕ → LogEnd → Type 0
IsEnd member bytes (end.Whole at) = IsWholeTo member bytes at
IsEnd member bytes (end.Broken at) = BreaksOff bytes at

abbrev pub ended_at : ℕ → Bool → LogEnd
ended_at at true = end.Whole at
ended_at at false = end.Broken at

-- ---- all logs

abbrev pub lengths_of : List Log → List ℕ
lengths_of logs = map (λ (l : Log). l.length) logs

-- the logs are whole ones, and their records end there
pub record AreWholeTo (bytes : List (List ℕ)) (ends : List ℕ) : Type 0 where
  pub logs : List Log
  pub are : AreWholeLogs 1 bytes logs
  pub ends_are : ends ≡ lengths_of logs

-- the logs are whole ones, and their records end there, or the first that isn't breaks off there
abbrev pub AreEnds : List (List ℕ) → Ends → Type 0
AreEnds logs (ends.Whole its) = AreWholeTo logs its.items
AreEnds logs (ends.Broken member at) = IsFirstBroken logs member at

-- there is one of each log
abbrev pub AreOf32 : Ends → Type 0
AreOf32 (ends.Whole its) = length its.items ≡ 32
AreOf32 (ends.Broken member at) = Unit {0}
