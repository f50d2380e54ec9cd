-- The records of a log behind an append that was done, or that has stopped inside.
use Rattle.std.specs.Prelude.{◌≡◌, ℕ, ◌≤◌, false, List, ◌++◌, length, take, drop, Ok}
use Rattle.std.specs.List.{AllByRecursion}
use Rattle.ds_model.specs.RecordBytes.{IsAllowed, log_bytes}
use Rattle.ds_model.specs.declared.log.LogRecord.{LogRecord}
use Rattle.log_record.specs.Logs.{Parts, parts_in}
use Rattle.log_reader.specs.Held.{names}
use Rattle.log_reader.specs.Keeping.{AreWhole}
use Rattle.log_starts.specs.Starts.{MayBegin}

-- The records are those of the bytes from this one on, before which whole records stand: it is the first, or a Checkpoint begins there that names
-- it.
pub record AreLastFrom (bytes : List ℕ) (start : ℕ) (records : List LogRecord) : Type 0 where
  pub whole : AreWhole (take start bytes)
  pub begins : MayBegin start (drop start bytes)
  pub parts : Parts
  pub told : parts_in (drop start bytes) ≡ Ok parts
  pub are : records ≡ parts.records

-- no Checkpoint that could name its own place is among the records
abbrev pub NoneNames : List LogRecord → Type 0
NoneNames records = (place : ℕ) → AllByRecursion (λ (r : LogRecord). names place r.body ≡ false) records

-- a log of whole records is one again behind records that are appended
abbrev pub AppendsAreWhole : Type 0
AppendsAreWhole = (log : List ℕ) (new : List LogRecord) → AreWhole log → AllByRecursion IsAllowed new → AreWhole (log ++ log_bytes new)

-- all its records are last ones
abbrev pub AllAreLast : Type 0
AllAreLast = (log : List ℕ) → (whole : AreWhole log) → AreLastFrom log 0 whole.records

-- and the log ends with the spelling of its last records
abbrev pub LastSpell : Type 0
LastSpell = (log : List ℕ) (start : ℕ) (back : List LogRecord) → AreWhole log → AreLastFrom log start back → log ≡ take start log ++ log_bytes back

-- Last records of what an append has left, of which so many bytes are on disk: those that the log had from the same byte on, and behind them a
-- front of the records that were appended, or all of them, if all bytes are there.
pub record AreBehind (log : List ℕ) (new : List LogRecord) (n start : ℕ) (records : List LogRecord) : Type 0 where
  pub back : List LogRecord
  pub front : List LogRecord
  pub rest : List LogRecord
  pub split : new ≡ front ++ rest
  pub are : records ≡ back ++ front
  pub last : AreLastFrom log start back
  pub all : length (log_bytes new) ≤ n → front ≡ new

abbrev pub LastAreBehind : Type 0
LastAreBehind = (log : List ℕ) (new : List LogRecord) (n start : ℕ) (records : List LogRecord)
    → AreWhole log → AllByRecursion IsAllowed new → NoneNames new → AreLastFrom (log ++ take n (log_bytes new)) start records → AreBehind log new n start records
