-- The records of one log of a disk, one after the other.
use Rattle.std.specs.Prelude.{◌≡◌, ℕ, ◌+◌, ◌<◌, ◌≤◌, List, ◌++◌, length, slice_index, Option, None, Some, Ok, Err}
use Rattle.ds_model.specs.declared.log.LogRecord.{LogRecord}
use Rattle.ds_model.specs.RecordBytes.{record_bytes, IsAllowed}
use Rattle.log_record.specs.declared.fault.RecordFault.TheVariants.{Bad}
use Rattle.log_record.specs.Reading.{record_in}
use Rattle.log_head.specs.Heads.{HeadState, hand_end, IsShort, IsOf, left_bytes}

-- the bytes in hand are bytes, and not more than the log has
pub record IsSound (h : HeadState) : Type 0 where
  pub within : hand_end h ≤ h.end
  pub bytes : (i : ℕ) → slice_index h.hand i < 256

-- what was read stands behind what was in hand
pub record HasMoved (old new : HeadState) : Type 0 where
  pub at_is : new.at ≡ old.at
  pub end_is : new.end ≡ old.end
  pub sound : IsSound old → IsSound new

-- so many bytes of it, which the log has
pub record IsFurther (old new : HeadState) (count : ℕ) : Type 0 where
  pub moved : HasMoved old new
  pub some : 1 ≤ count
  pub room : hand_end old + count ≤ old.end
  pub further : hand_end new ≡ hand_end old + count

-- what is in hand stays the log's
abbrev pub KeepsOf : List ℕ → HeadState → HeadState → Type 0
KeepsOf log old new = IsOf log old → IsOf log new

-- ---- the next record

-- the next record begins behind the one that was taken, if one was
abbrev pub StandsBehind : HeadState → HeadState → Option LogRecord → Type 0
StandsBehind old new None = new.at ≡ old.at
StandsBehind old new (Some r) = old.at < new.at

-- so reading goes on, and comes to an end
pub record IsPast (old new : HeadState) (next : Option LogRecord) : Type 0 where
  pub behind : StandsBehind old new next
  pub within : new.at ≤ new.end
  pub end_is : new.end ≡ old.end
  pub sound : IsSound new

-- this record is the first of the bytes that were left of the log, and those behind it are left now
pub record IsFirst (log : List ℕ) (old new : HeadState) (r : LogRecord) : Type 0 where
  pub is_read : record_in (left_bytes log old) ≡ Ok (r, length (record_bytes r))
  pub spelled : left_bytes log old ≡ record_bytes r ++ left_bytes log new
  pub allowed : IsAllowed r
  pub at_is : new.at ≡ old.at + length (record_bytes r)

-- what was taken of a log: its first record; or there is none
abbrev pub IsNextOf : List ℕ → HeadState → HeadState → Option LogRecord → Type 0
IsNextOf log old new None = IsShort (record_in (left_bytes log old)) × (left_bytes log new ≡ left_bytes log old)
IsNextOf log old new (Some r) = IsFirst log old new r

-- and the log is read on so
pub record IsNext (log : List ℕ) (old new : HeadState) (next : Option LogRecord) : Type 0 where
  pub of : IsOf log new
  pub next_of : IsNextOf log old new next

-- the field of a record that begins at this byte of the log isn't allowed
pub record IsBadAt (log : List ℕ) (h : HeadState) (at : ℕ) : Type 0 where
  pub field : ℕ
  pub at_is : at ≡ h.at + field
  pub bad : record_in (left_bytes log h) ≡ Err (Bad field)
