-- Where the records begin that were read of a log.
use Rattle.std.specs.Prelude.{ℕ, ◌+◌, ◌-◌, List, [], ◌∷◌, length}
use Rattle.ds_model.specs.declared.log.LogRecord.{LogRecord}
use Rattle.ds_model.specs.RecordBytes.{record_bytes}
use Rattle.log_record.specs.declared.log.Log.{Log}

-- the byte behind these records, the first of which begins at this one
abbrev pub behind_all : ℕ → List LogRecord → ℕ
behind_all at [] = at
behind_all at (r ∷ rs) = behind_all (at + length (record_bytes r)) rs

-- the byte of the log at which the first of its records begins: 0, where all of it is kept
abbrev pub begin_of : Log → ℕ
begin_of log = log.length - behind_all 0 log.records
