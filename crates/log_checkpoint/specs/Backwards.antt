-- A log that is read backwards, from the end of its whole records.
use Rattle.std.specs.Prelude.{◌≡◌, ℕ, zero, suc, ◌+◌, ◌-◌, ◌≤◌, ◌==◌, nat_lt, min, is_none, if◌then◌else◌, List, ◌++◌, length, take, drop, Option, None, Some, Result, Ok, Err}
use Rattle.byteorder.specs.Endian.{big_number}
use Rattle.ds_model.specs.declared.log.LogRecord.{LogRecord}
use Rattle.ds_model.specs.declared.log.Body.{Body}
use Rattle.ds_model.specs.declared.log.Body.TheVariants as body
use Rattle.ds_model.specs.RecordBytes.{record_limit}
use Rattle.log_record.specs.declared.fault.RecordFault.{RecordFault}
use Rattle.log_record.specs.Reading.{record_in}
use Rattle.log_checkpoint.specs.declared.last.Last.{Last}
use Rattle.log_checkpoint.specs.declared.last.Last.TheVariants as last
use Rattle.log_checkpoint.specs.declared.found.Found.{Found}
use Rattle.log_checkpoint.specs.declared.found.Found.TheVariants as found

-- ---- the last record of bytes

abbrev pub last_by : ℕ → Result (LogRecord × ℕ) RecordFault → Last
last_by n (Ok (r, m)) = if m == n then last.Record r n else last.Broken
last_by n (Err fault) = last.Broken

-- of so many bytes, where there are as many
abbrev pub last_sized : List ℕ → ℕ → Last
last_sized bytes n =
    if nat_lt record_limit n then last.Broken
    else if nat_lt (length bytes) n then last.Short
    else last_by n (record_in (drop (length bytes - n) bytes))

-- the length that stands at the end of bytes
abbrev pub last_size : List ℕ → ℕ
last_size bytes = big_number 4 (drop (length bytes - 4) bytes)

-- the record that ends with the bytes, by the length that stands at its end
unfoldable pub last_of : List ℕ → Last
last_of bytes = if nat_lt (length bytes) 4 then last.Short else last_sized bytes (last_size bytes)

-- a record has bytes, and is no longer than these
abbrev pub EndsIn : Last → ℕ → Type 0
EndsIn (last.Record r n) long = (1 ≤ n) × (n ≤ long)
EndsIn last.Short long = Unit {0}
EndsIn last.Broken long = Unit {0}

-- ---- the search

-- the most bytes that are asked for at once; where the bytes in hand begin; and they, which are those before the records that were passed
pub record SearchState : Type 0 where
  pub block : ℕ
  pub low : ℕ
  pub hand : List ℕ

-- up to here the records are still to be passed
abbrev pub place_of : SearchState → ℕ
place_of s = s.low + length s.hand

-- no record is whole in hand: the bytes before are wanted, or there are none
abbrev pub told_short : SearchState → Found
told_short s =
    if s.low == 0 then (if length s.hand == 0 then found.Missing else found.Broken)
    else found.Wants (s.low - min s.low s.block) (min s.low s.block)

abbrev pub told_body : ℕ → Body → Option Found
told_body at (body.RowChange change) = None
told_body at (body.Compensation change undone) = None
told_body at (body.System patches) = None
told_body at body.Commit = None
told_body at body.Ended = None
told_body at (body.Checkpoint offset) = Some (found.At at offset)
told_body at body.RestartEnd = None

abbrev pub told_by : SearchState → Last → Option Found
told_by s (last.Record r n) = told_body (place_of s - n) r.body
told_by s last.Short = Some (told_short s)
told_by s last.Broken = Some found.Broken

-- what is told of the last record in hand: nothing, where it is passed
abbrev pub told_of : SearchState → Option Found
told_of s = told_by s (last_of s.hand)

-- before a record of so many bytes
abbrev pub before : SearchState → ℕ → SearchState
before s n = record { block = s.block; low = s.low; hand = take (length s.hand - n) s.hand }

-- a record that is passed isn't in hand any more
abbrev pub passed_by : SearchState → Last → Option Found → SearchState
passed_by s (last.Record r n) None = before s n
passed_by s (last.Record r n) (Some found) = s
passed_by s last.Short told = s
passed_by s last.Broken told = s

abbrev pub after_step : SearchState → SearchState
after_step s = passed_by s (last_of s.hand) (told_of s)

-- records are passed until something is told, so many at most
abbrev pub passed_on : ℕ → SearchState → SearchState
passed_on zero s = s
passed_on (suc n) s = if is_none (told_of s) then passed_on n (after_step s) else s

-- each record has bytes, so no more are in hand than these
unfoldable pub searched : SearchState → SearchState
searched s = passed_on (length s.hand) s

-- so many bytes are wanted
abbrev pub AreWanted : Option Found → ℕ → Type 0
AreWanted None count = ⊥
AreWanted (Some (found.Wants at n)) count = n ≡ count
AreWanted (Some (found.At at offset)) count = ⊥
AreWanted (Some found.Missing) count = ⊥
AreWanted (Some found.Broken) count = ⊥

abbrev pub filled : SearchState → List ℕ → SearchState
filled s bytes = record { block = s.block; low = s.low - length bytes; hand = bytes ++ s.hand }
