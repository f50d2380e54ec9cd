-- What was read of logs: of each all of it, or its last records from a Checkpoint on.
use Rattle.std.specs.Prelude.{◌≡◌, ◌⊎◌, ℕ, true, not, List, [], ◌∷◌, ◌++◌, length, take, drop}
use Rattle.std.specs.List.{list_all, AllByRecursion}
use Rattle.ds_model.specs.declared.log.LogRecord.{LogRecord}
use Rattle.ds_model.specs.RecordBytes.{IsAllowed, log_bytes}
use Rattle.log_record.specs.declared.log.Log.{Log}
use Rattle.log_head.specs.Whole.{whole_records}
use Rattle.log_reader.specs.Held.{HeldState, begins_at, is_earlier}
use Rattle.checkpoint_offsets.specs.Offsets.{all_own}

-- the records begin with a Checkpoint of the version in which records are written; each of their Checkpoints names the byte at which it begins; and
-- none of them belongs to a transaction that began before the first
pub record BeginThere (place : ℕ) (first : LogRecord) (rest : List LogRecord) : Type 0 where
  pub begins : begins_at place first ≡ true
  pub own : all_own place (first ∷ rest) ≡ true
  pub later : list_all (λ (r : LogRecord). not (is_earlier first.lrsn r)) rest ≡ true

-- records that begin at this byte, from which a log may be kept
abbrev pub MayBeginAt : ℕ → List LogRecord → Type 0
MayBeginAt place [] = ⊥
MayBeginAt place (r ∷ rs) = BeginThere place r rs

-- this was read of the log
pub record IsReadOf (log read : Log) : Type 0 where
  pub member_is : read.member ≡ log.member
  pub length_is : read.length ≡ log.length
  pub tail_is : read.tail ≡ log.tail
  pub front : List LogRecord
  pub records_are : log.records ≡ front ++ read.records
  pub begins : (front ≡ []) ⊎ MayBeginAt (length (log_bytes front)) read.records

abbrev pub AreReadOf : List Log → List Log → Type 0
AreReadOf [] [] = Unit {0}
AreReadOf [] (read ∷ reads) = ⊥
AreReadOf (log ∷ logs) [] = ⊥
AreReadOf (log ∷ logs) (read ∷ reads) = IsReadOf log read × AreReadOf logs reads

-- ---- what is kept while a log is read

-- the number is that of the first of them
abbrev pub HasNumber : ℕ → List LogRecord → Type 0
HasNumber low [] = ⊥
HasNumber low (r ∷ rs) = low ≡ r.lrsn

-- records from which a log may be kept, the first of which has this number
abbrev pub BeginAt : ℕ → ℕ → List LogRecord → Type 0
BeginAt place low records = MayBeginAt place records × HasNumber low records

-- the records that were looked at are those at the front of what is kept; either nothing is left out, or a log may be kept from them on, and all whole records of what is kept were looked at
pub record IsKept (h : HeldState) : Type 0 where
  pub looked : List LogRecord
  pub spelled : take h.passed h.bytes ≡ log_bytes looked
  pub allowed : AllByRecursion IsAllowed looked
  pub from_start : h.keeps_all ≡ true → h.start ≡ 0
  pub begins : (h.start ≡ 0) ⊎ (BeginAt h.start h.low looked × (whole_records (drop h.passed h.bytes) ≡ []))
