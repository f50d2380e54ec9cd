-- The records of logs.
use Rattle.std.specs.Prelude.{ℕ, Bool, List, map, filter}
use Rattle.std.specs.List.{flat_map}
use Rattle.ds_model.specs.declared.log.LogRecord.{LogRecord}
use Rattle.log_record.specs.declared.log.Log.{Log}

-- the records of each log
abbrev pub records_of : List Log → List (List LogRecord)
records_of logs = map (λ (l : Log). l.records) logs

-- the records of all logs, one log after the other
abbrev pub all_records : List Log → List LogRecord
all_records logs = flat_map (λ (l : Log). l.records) logs

-- each with its number
abbrev pub numbered : List LogRecord → List (ℕ × LogRecord)
numbered records = map (λ (r : LogRecord). let it : ℕ × LogRecord = (r.lrsn, r) in it) records

-- those of the transactions that pass this test, each with its number
abbrev pub chosen : (ℕ → Bool) → List LogRecord → List (ℕ × LogRecord)
chosen keeps records = numbered (filter (λ (r : LogRecord). keeps r.tran) records)
