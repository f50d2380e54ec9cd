-- What is kept of a log that is read on, and what is read of it in the end.
use Rattle.std.specs.Prelude.{◌≡◌, ℕ, ◌+◌, ◌<◌, ◌≤◌, Bool, ◌||◌, List, ◌++◌, length, take, drop, slice_index}
use Rattle.std.specs.List.{AllByRecursion, list_any}
use Rattle.ds_model.specs.declared.log.LogRecord.{LogRecord}
use Rattle.ds_model.specs.RecordBytes.{IsAllowed, log_bytes}
use Rattle.log_record.specs.declared.log.Log.{Log}
use Rattle.log_record.specs.Logs.{IsLogOf}
use Rattle.log_head.specs.Whole.{whole_records}
use Rattle.log_reader.specs.Held.{HeldState, is_old, nothing_held, held_from, grown}
use Rattle.log_reader.specs.Readers.{ReaderState, IsLogRead}

abbrev pub AreBytes : List ℕ → Type 0
AreBytes bytes = (i : ℕ) → slice_index bytes i < 256

-- the bytes are those of whole records
pub record AreWhole (bytes : List ℕ) : Type 0 where
  pub records : List LogRecord
  pub spelled : bytes ≡ log_bytes records
  pub allowed : AllByRecursion IsAllowed records

-- what is kept are bytes of this log, which is read up to their end; before them stand whole records, and those that were looked at are such
pub record IsOf (log : List ℕ) (h : HeldState) : Type 0 where
  pub within : h.end ≤ length log
  pub ends : h.start + length h.bytes ≡ h.end
  pub told : h.bytes ≡ take (length h.bytes) (drop h.start log)
  pub bytes : AreBytes h.bytes
  pub passed : h.passed ≤ length h.bytes
  pub before : AreWhole (take h.start log)
  pub looked : AreWhole (take h.passed h.bytes)

-- the log that was read has the last records of a log of these bytes
pub record HasLastOf (bytes : List ℕ) (log : Log) : Type 0 where
  pub front : List LogRecord
  pub is : IsLogOf bytes (record { member = log.member; records = front ++ log.records; length = log.length; tail = log.tail })

-- one of the records is of version 1
abbrev pub any_old : List LogRecord → Bool
any_old records = list_any (λ (r : LogRecord). is_old r) records

-- a record of version 1 is noted exactly where one is among those of the log that were looked at, from its first byte on
abbrev pub IsNoted : List ℕ → HeldState → Type 0
IsNoted log h = h.has_old ≡ any_old (whole_records (take (h.start + h.passed) log))

-- ---- laws

abbrev pub NothingIsOf : Type 0
NothingIsOf = (log : List ℕ) (keeps_all : Bool) → IsOf log (nothing_held keeps_all)

-- behind whole records reading may begin
abbrev pub BeginningIsOf : Type 0
BeginningIsOf = (log : List ℕ) (place : ℕ) → place ≤ length log → AreWhole (take place log) → IsOf log (held_from place)

-- the next bytes of the log, which begin a block
abbrev pub GrownIsOf : Type 0
GrownIsOf = (log : List ℕ) (h : HeldState) (block : List ℕ) (n : ℕ) → IsOf log h → AreBytes block → h.end + n ≤ length log → take n block ≡ take n (drop h.end log) → IsOf log (grown h (take n block))

-- whether nothing is left out from now on says nothing of what was
abbrev pub KeepingIsOf : Type 0
KeepingIsOf = (log : List ℕ) (h : HeldState) (keeps_all : Bool) → IsOf log h → IsOf log (record h { keeps_all = keeps_all })

-- all of the log is read
abbrev pub ReadIsLast : Type 0
ReadIsLast = (bytes : List ℕ) (r : ReaderState) (log : Log) → IsOf bytes r.held → length bytes ≤ r.held.end → IsLogRead r log → HasLastOf bytes log

-- ---- and of what is noted

abbrev pub NothingIsNoted : Type 0
NothingIsNoted = (log : List ℕ) (keeps_all : Bool) → IsNoted log (nothing_held keeps_all)

abbrev pub GrownIsNoted : Type 0
GrownIsNoted = (log : List ℕ) (h : HeldState) (block : List ℕ) (n : ℕ) → IsOf log h → IsNoted log h → AreBytes block → h.end + n ≤ length log → take n block ≡ take n (drop h.end log) → IsNoted log (grown h (take n block))

abbrev pub KeepingIsNoted : Type 0
KeepingIsNoted = (log : List ℕ) (h : HeldState) (keeps_all : Bool) → IsNoted log h → IsNoted log (record h { keeps_all = keeps_all })

-- the log has a record of version 1, before the last ones or among them, exactly where one was noted or is among the last ones
abbrev pub OldIsNoted : Type 0
OldIsNoted = (bytes : List ℕ) (r : ReaderState) (log : Log) → IsOf bytes r.held → IsNoted bytes r.held → length bytes ≤ r.held.end → IsLogRead r log → (last : HasLastOf bytes log) → any_old (last.front ++ log.records) ≡ (r.held.has_old || any_old log.records)
