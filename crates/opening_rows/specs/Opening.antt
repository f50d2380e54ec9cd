-- The rows before a run.
use Rattle.std.specs.Prelude.{◌≡◌, ℕ, List, map, length}
use Rattle.ds_base.specs.declared.row.Row.{Row}
use Rattle.ds_disk.specs.Contents.{Contents}
use Rattle.ds_model.specs.Rows.{listed}
use Rattle.ds_model.specs.Logs.{rows_of_logs}
use Rattle.log_record.specs.declared.log.Log.{Log}
use Rattle.log_merge.specs.Merging.{NoneFalls}
use Rattle.report_check.specs.Records.{records_of}
use Rattle.opening_rows.specs.declared.opening.Opening.{Opening}
use Rattle.opening_rows.specs.Reading.{AreLogsOf}

-- how many records each log has
abbrev pub record_counts : List Log → List ℕ
record_counts logs = map (λ (l : Log). length l.records) logs

-- the rows that logs stand for, in their order
abbrev pub stood_for : List Log → List Row
stood_for logs = listed (rows_of_logs (records_of logs))

-- the rows for which these logs stand, and how many records each has
pub record IsOpeningOf (logs : List Log) (opening : Opening) : Type 0 where
  pub rows_are : opening.rows ≡ stood_for logs
  pub had_is : opening.had.items ≡ record_counts logs

-- the same of the logs of a disk as they stand, in none of which a number falls
pub record OpensAs (c : Contents) (opening : Opening) : Type 0 where
  pub logs : List Log
  pub are : AreLogsOf c.logs logs
  pub rise : NoneFalls logs
  pub is : IsOpeningOf logs opening

-- the logs of a disk as they stand have these rows
pub record OpensWith (c : Contents) (rows : List Row) : Type 0 where
  pub logs : List Log
  pub are : AreLogsOf c.logs logs
  pub rows_are : rows ≡ stood_for logs
