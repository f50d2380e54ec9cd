-- What is known of a log that is read backwards.
use Rattle.std.specs.Prelude.{◌≡◌, ℕ, ◌+◌, ◌-◌, ◌≤◌, List, [], ◌∷◌, length, take, drop, Result, Ok, Err}
use Rattle.std.specs.List.{AllByRecursion}
use Rattle.ds_model.specs.declared.log.LogRecord.{LogRecord}
use Rattle.ds_model.specs.declared.log.Body.{Body}
use Rattle.ds_model.specs.declared.log.Body.TheVariants as body
use Rattle.log_record.specs.Logs.{Parts, parts_in}
use Rattle.log_checkpoint.specs.declared.found.Found.{Found}
use Rattle.log_checkpoint.specs.declared.found.Found.TheVariants as found
use Rattle.log_checkpoint.specs.Backwards.{SearchState, place_of}

-- the log's bytes from one place up to another
abbrev pub between : ℕ → ℕ → List ℕ → List ℕ
between from to log = take (to - from) (drop from log)

-- the bytes of these parts are whole records and nothing else
abbrev pub AreWhole : Result Parts ℕ → Type 0
AreWhole (Ok p) = p.tail ≡ 0
AreWhole (Err at) = ⊥

abbrev pub IsOther : Body → Type 0
IsOther (body.RowChange change) = Unit {0}
IsOther (body.Compensation change undone) = Unit {0}
IsOther (body.System patches) = Unit {0}
IsOther body.Commit = Unit {0}
IsOther body.Ended = Unit {0}
IsOther (body.Checkpoint offset) = ⊥
IsOther body.RestartEnd = Unit {0}

-- no record is a checkpoint
abbrev pub HaveNone : List LogRecord → Type 0
HaveNone records = AllByRecursion (λ (r : LogRecord). IsOther r.body) records

-- they are whole records, and none is a checkpoint
abbrev pub ArePassed : Result Parts ℕ → Type 0
ArePassed (Ok p) = (p.tail ≡ 0) × HaveNone p.records
ArePassed (Err at) = ⊥

-- the first is a checkpoint with this offset, and no other is one
abbrev pub BeginsLast : ℕ → List LogRecord → Type 0
BeginsLast offset [] = ⊥
BeginsLast offset (r ∷ rs) = (r.body ≡ body.Checkpoint offset) × HaveNone rs

abbrev pub IsLast : ℕ → Result Parts ℕ → Type 0
IsLast offset (Ok p) = (p.tail ≡ 0) × BeginsLast offset p.records
IsLast offset (Err at) = ⊥

-- what is in hand is this log's, and so are the records that were passed, up to this end of it; and where all before the end are whole records, those before the
-- passed ones are
pub record IsOf (log : List ℕ) (end : ℕ) (s : SearchState) : Type 0 where
  pub within : end ≤ length log
  pub fits : place_of s ≤ end
  pub told : s.hand ≡ take (length s.hand) (drop s.low log)
  pub passed : ArePassed (parts_in (between (place_of s) end log))
  pub whole : AreWhole (parts_in (take end log)) → AreWhole (parts_in (take (place_of s) log))

-- the last records in hand were passed, and else nothing has changed
pub record HasPassed (old new : SearchState) : Type 0 where
  pub block : new.block ≡ old.block
  pub low : new.low ≡ old.low
  pub hand : new.hand ≡ take (length new.hand) old.hand

-- these are the log's bytes before those in hand
abbrev pub AreBefore : List ℕ → SearchState → List ℕ → Type 0
AreBefore log s bytes = bytes ≡ take (length bytes) (drop (s.low - length bytes) log)

-- what is told is so: the last checkpoint begins there, behind whole records, where all before the end are such; or there is none; or the log up to the end isn't
-- whole records
abbrev pub IsTold : List ℕ → ℕ → Found → Type 0
IsTold log end (found.Wants at count) = at + count ≤ end
IsTold log end (found.At at offset) = (at ≤ end) × IsLast offset (parts_in (between at end log)) × (AreWhole (parts_in (take end log)) → AreWhole (parts_in (take at log)))
IsTold log end found.Missing = ArePassed (parts_in (take end log))
IsTold log end found.Broken = AreWhole (parts_in (take end log)) → ⊥
