-- The log buffer of a member.
use Rattle.std.specs.Prelude.{ℕ, ◌-◌, Bool, ◌&&◌, List, [], ◌++◌, length, nat_lt}
use Rattle.log_record.specs.Given.{LogRecord}
use Rattle.log_record.specs.Given.{record_bytes}

-- the bytes that it has room for, the spelling of the records that were put since the last force, the LRSN of the last
-- record that was put, and that of the last one before the pending records
pub record LogBuffer : Type 0 where
  pub size : ℕ
  pub pending : List ℕ
  pub last : ℕ
  pub stable : ℕ

-- no record was put yet
abbrev pub empty_buffer : ℕ → LogBuffer
empty_buffer size = record { size = size; pending = []; last = 0; stable = 0 }

abbrev pub room_of : LogBuffer → ℕ
room_of b = b.size - length b.pending

-- the record stands behind the pending ones
abbrev pub after_put : LogBuffer → LogRecord → LogBuffer
after_put b r = record { size = b.size; pending = b.pending ++ record_bytes r; last = r.lrsn; stable = b.stable }

-- all pending records stand in the log
abbrev pub after_force : LogBuffer → LogBuffer
after_force b = record { size = b.size; pending = []; last = b.last; stable = b.last }

-- the log on disk ends with this number, and nothing is pending
abbrev pub started : LogBuffer → ℕ → LogBuffer
started b last = record { size = b.size; pending = []; last = last; stable = last }

-- a record is pending, and the last one has a number above the limit
abbrev pub is_above : LogBuffer → ℕ → Bool
is_above b limit = nat_lt 0 (length b.pending) && nat_lt limit b.last
