-- What reading by blocks comes to.
use Rattle.std.specs.Prelude.{◌≡◌, ◌≢◌, ℕ, ◌+◌, ◌-◌, ◌≤◌, List, [], ◌∷◌, length, take, drop, Ok, Err}
use Rattle.byteorder.specs.Endian.{big_number}
use Rattle.log_record.specs.Given.{record_limit}
use Rattle.log_record.specs.Given.{LogRecord}
use Rattle.log_record.specs.declared.fault.RecordFault.{RecordFault}
use Rattle.log_record.specs.declared.fault.RecordFault.TheVariants.{NotWhole, Bad}
use Rattle.log_record.specs.Reading.{record_in}
use Rattle.log_record.specs.Logs.{Parts, parts_in}
use Rattle.log_record.specs.Logs as parts
use Rattle.log_head.specs.Whole.{whole_records}
use Rattle.log_head.specs.Heads.{HeadState, hand_end, behind, filled, IsShort, IsOf, AreNext, left_bytes, left_of}

-- a record that was read has bytes, and they are there
abbrev pub RecordHasSize : Type 0
RecordHasSize = (bytes : List ℕ) (r : LogRecord) (n : ℕ) → record_in bytes ≡ Ok (r, n) → (1 ≤ n) × (n ≤ length bytes)

-- its length stands at its end again
abbrev pub RecordIsFramed : Type 0
RecordIsFramed = (bytes : List ℕ) (r : LogRecord) (n : ℕ) → record_in bytes ≡ Ok (r, n) → (4 ≤ n) × (n ≤ record_limit) × (big_number 4 (drop (n - 4) bytes) ≡ n)

-- what is decided at the front of bytes stays so, whatever follows
abbrev pub FrontDecides : Type 0
FrontDecides = (bytes : List ℕ) (k : ℕ) → record_in (take k bytes) ≢ Err NotWhole → record_in bytes ≡ record_in (take k bytes)

-- and of its own bytes it is read, too
abbrev pub RecordIsOwn : Type 0
RecordIsOwn = (bytes : List ℕ) (k : ℕ) (r : LogRecord) (n : ℕ) → record_in bytes ≡ Ok (r, n) → n ≤ k → record_in (take k bytes) ≡ Ok (r, n)

-- the whole records of bytes are the first, if there is one, and then those behind it
abbrev pub FirstIsWhole : Type 0
FirstIsWhole = (bytes : List ℕ) (r : LogRecord) (n : ℕ) → record_in bytes ≡ Ok (r, n) → whole_records bytes ≡ r ∷ whole_records (drop n bytes)

abbrev pub NoneIsWhole : Type 0
NoneIsWhole = (bytes : List ℕ) (fault : RecordFault) → record_in bytes ≡ Err fault → whole_records bytes ≡ []

-- no bytes are no whole record
abbrev pub NothingIsShort : Type 0
NothingIsShort = record_in [] ≡ Err NotWhole

-- they are the records of a log's parts
abbrev pub PartsAreWhole : Type 0
PartsAreWhole = (bytes : List ℕ) (p : Parts) → parts_in bytes ≡ Ok p → (p.size ≤ length bytes) × (whole_records (take p.size bytes) ≡ p.records)

-- a log's parts are its first record, and then the parts behind it; or they end with a tail, or with damage
abbrev pub PartsGoOn : Type 0
PartsGoOn = (bytes : List ℕ) (r : LogRecord) (n : ℕ) → record_in bytes ≡ Ok (r, n) → parts_in bytes ≡ parts.behind r n (parts_in (drop n bytes))

abbrev pub PartsEnd : Type 0
PartsEnd = (bytes : List ℕ) → IsShort (record_in bytes) → parts_in bytes ≡ Ok (record { records = []; size = 0; tail = length bytes })

abbrev pub PartsAreBad : Type 0
PartsAreBad = (bytes : List ℕ) (field : ℕ) → record_in bytes ≡ Err (Bad field) → parts_in bytes ≡ Err field

-- a record that is taken is the first of those that were left of the log
abbrev pub TakenIsFirst : Type 0
TakenIsFirst = (log : List ℕ) (h : HeadState) (r : LogRecord) (n : ℕ) → IsOf log h → record_in h.hand ≡ Ok (r, n) → IsOf log (behind h n) × (left_of log h ≡ r ∷ left_of log (behind h n))

-- a record in hand is the first of the bytes that are left of the log, and those behind it are left then
abbrev pub RecordIsLeft : Type 0
RecordIsLeft = (log : List ℕ) (h : HeadState) (r : LogRecord) (n : ℕ) → IsOf log h → record_in h.hand ≡ Ok (r, n) → (record_in (left_bytes log h) ≡ Ok (r, n)) × (left_bytes log (behind h n) ≡ drop n (left_bytes log h))

-- bytes of the log that are put behind those in hand are in hand then
abbrev pub FilledIsOf : Type 0
FilledIsOf = (log : List ℕ) (h : HeadState) (bytes : List ℕ) → IsOf log h → hand_end h + length bytes ≤ h.end → AreNext log h bytes → IsOf log (filled h bytes)

-- in the end all that is left is in hand
abbrev pub EndIsInHand : Type 0
EndIsInHand = (log : List ℕ) (h : HeadState) → IsOf log h → hand_end h ≡ h.end → left_bytes log h ≡ h.hand

-- a field in hand that isn't allowed is the log's
abbrev pub BadIsLeft : Type 0
BadIsLeft = (log : List ℕ) (h : HeadState) (field : ℕ) → IsOf log h → record_in h.hand ≡ Err (Bad field) → record_in (left_bytes log h) ≡ Err (Bad field)
