-- Logs without the records that belong to no transaction.
use Rattle.std.specs.Prelude.{◌≡◌, ℕ, ◌+◌, List, [], ◌∷◌, ◌++◌, map}
use Rattle.ds_disk.specs.Contents.{Contents, log_of}
use Rattle.ds_model.specs.declared.log.LogRecord.{LogRecord}
use Rattle.log_record.specs.declared.log.Log.{Log}
use Rattle.log_record.specs.Logs.{IsLogOf}
use Rattle.report_check.specs.Records.{records_of}
use Rattle.opening_rows.specs.Reading.{AreLogsOf}
use Rattle.opening_rows.specs.declared.keeps.Keeps.TheVariants as which
use Rattle.opening_rows.specs.Kept.{keeps_of, kept_by}

-- the records that belong to a transaction
abbrev pub of_trans : List LogRecord → List LogRecord
of_trans records = kept_by (keeps_of which.Each) records

abbrev pub tails_of : List Log → List ℕ
tails_of logs = map (λ (l : Log). l.tail) logs

-- the second logs are the first without the others, and end alike
pub record AreOfTrans (whole logs : List Log) : Type 0 where
  pub records_are : records_of logs ≡ map of_trans (records_of whole)
  pub tails_are : tails_of logs ≡ tails_of whole

-- the same of the logs of these bytes
pub record AreReadSo (bytes : List (List ℕ)) (logs : List Log) : Type 0 where
  pub whole : List Log
  pub are : AreLogsOf bytes whole
  pub so : AreOfTrans whole logs

-- with the log behind so many others these became those
pub record AddsLog (n : ℕ) (old new : List Log) (c : Contents) : Type 0 where
  pub log : Log
  pub is_log : IsLogOf (log_of c.logs (n + 1)) log
  pub so : (whole : List Log) → AreOfTrans whole old → AreOfTrans (whole ++ log ∷ []) new
