-- A log that is read by blocks.
use Rattle.std.specs.Prelude.{◌≡◌, ℕ, ◌+◌, ◌-◌, ◌<◌, ◌≤◌, ◌^◌, nat_lt, min, if◌then◌else◌, List, [], ◌∷◌, ◌++◌, length, take, drop, Option, None, Some, Result, Ok, Err}
use Rattle.log_record.specs.Given.{LogRecord}
use Rattle.log_record.specs.Given.{record_limit}
use Rattle.log_record.specs.declared.fault.RecordFault.{RecordFault}
use Rattle.log_record.specs.declared.fault.RecordFault.TheVariants.{NotWhole, Bad, NoMemory}
use Rattle.log_record.specs.Reading.{record_in}
use Rattle.log_head.specs.declared.standing.Standing.{Standing}
use Rattle.log_head.specs.declared.standing.Standing.TheVariants as standing
use Rattle.log_head.specs.Whole.{whole_records}

-- where the bytes in hand begin, which are those that were read and of which no record is taken; they; and up to where the log is read
pub record HeadState : Type 0 where
  pub at : ℕ
  pub hand : List ℕ
  pub end : ℕ

-- the bytes that are read next begin here
abbrev pub hand_end : HeadState → ℕ
hand_end h = h.at + length h.hand

-- ---- how a head stands

-- no whole record is in hand: a block is wanted, or what is left of it, or nothing is left
abbrev pub standing_short : ℕ → HeadState → Standing
standing_short block h = if nat_lt (hand_end h) h.end then standing.Wants (hand_end h) (min (h.end - hand_end h) block) else standing.Ends h.at

abbrev pub standing_by : ℕ → HeadState → Result (LogRecord × ℕ) RecordFault → Standing
standing_by block h (Ok found) = standing.Ready
standing_by block h (Err (Bad field)) = standing.Bad (h.at + field)
standing_by block h (Err NotWhole) = standing_short block h
standing_by block h (Err NoMemory) = standing_short block h

abbrev pub standing_of : ℕ → HeadState → Standing
standing_of block h = standing_by block h (record_in h.hand)

-- ---- what its calls make of it

abbrev pub first_by : Result (LogRecord × ℕ) RecordFault → Option LogRecord
first_by (Ok (r, n)) = Some r
first_by (Err fault) = None

-- the whole record at the front of what is in hand
abbrev pub first_of : HeadState → Option LogRecord
first_of h = first_by (record_in h.hand)

abbrev pub number_by : Result (LogRecord × ℕ) RecordFault → Option ℕ
number_by (Ok (r, n)) = Some r.lrsn
number_by (Err fault) = None

-- its number
abbrev pub number_of : HeadState → Option ℕ
number_of h = number_by (record_in h.hand)

-- behind so many bytes of what is in hand
abbrev pub behind : HeadState → ℕ → HeadState
behind h n = record { at = h.at + n; hand = drop n h.hand; end = h.end }

abbrev pub after_by : HeadState → Result (LogRecord × ℕ) RecordFault → HeadState
after_by h (Ok (r, n)) = behind h n
after_by h (Err fault) = h

-- behind its first record
abbrev pub after_take : HeadState → HeadState
after_take h = after_by h (record_in h.hand)

abbrev pub filled : HeadState → List ℕ → HeadState
filled h bytes = record { at = h.at; hand = h.hand ++ bytes; end = h.end }

-- neither a whole record nor a field that isn't allowed was read
abbrev pub IsShort : Result (LogRecord × ℕ) RecordFault → Type 0
IsShort (Ok found) = ⊥
IsShort (Err NotWhole) = Unit {0}
IsShort (Err (Bad field)) = ⊥
IsShort (Err NoMemory) = Unit {0}

-- ---- the records that are kept beside the bytes

-- what stands behind them is no record: it isn't whole, and has no more bytes than a record, or it is damaged at this byte of the log
abbrev pub Stops : Result (LogRecord × ℕ) RecordFault → ℕ → ℕ → Option ℕ → Type 0
Stops (Ok found) long at bad = ⊥
Stops (Err NotWhole) long at bad = (bad ≡ None) × (long ≤ record_limit)
Stops (Err (Bad field)) long at bad = bad ≡ Some (at + field)
Stops (Err NoMemory) long at bad = ⊥

-- the bytes from this byte of a log on are read as these records, each with its length, and then as none
abbrev pub AreRead : List ℕ → ℕ → List (LogRecord × ℕ) → Option ℕ → Type 0
AreRead bytes at [] bad = Stops (record_in bytes) (length bytes) at bad
AreRead bytes at (found ∷ more) bad = (record_in bytes ≡ Ok found) × AreRead (drop found.1 bytes) (at + found.1) more bad

-- the first of the bytes were taken, and the others are read as these records; they aren't more than are wanted, and no log is longer than a number of 64 bits tells
pub record Keeps (at end : ℕ) (bytes : List ℕ) (taken : ℕ) (records : List (LogRecord × ℕ)) (bad : Option ℕ) : Type 0 where
  pub taken_in : taken ≤ length bytes
  pub within : at + (length bytes - taken) ≤ end
  pub below : end < 2 ^ 64
  pub read : AreRead (drop taken bytes) at records bad

-- ---- the log

-- the log goes on up to where it is read, and these of its bytes are in hand
pub record IsOf (log : List ℕ) (h : HeadState) : Type 0 where
  pub within : h.end ≤ length log
  pub fits : hand_end h ≤ h.end
  pub told : h.hand ≡ take (length h.hand) (drop h.at log)

-- these are the log's bytes behind those in hand
abbrev pub AreNext : List ℕ → HeadState → List ℕ → Type 0
AreNext log h bytes = bytes ≡ take (length bytes) (drop (hand_end h) log)

-- the log's bytes of which no record is taken
abbrev pub left_bytes : List ℕ → HeadState → List ℕ
left_bytes log h = take (h.end - h.at) (drop h.at log)

-- its records that are still to be taken
abbrev pub left_of : List ℕ → HeadState → List LogRecord
left_of log h = whole_records (left_bytes log h)
