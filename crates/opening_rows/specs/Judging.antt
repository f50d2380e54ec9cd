-- What the logs of a disk say to the entries of a report.
use Rattle.std.specs.Prelude.{◌≡◌, ℕ, List, Option, Some, None}
use Rattle.ds_base.specs.declared.row.Row.{Row}
use Rattle.ds_disk.specs.Contents.{Contents}
use Rattle.ds_model.specs.declared.script.Script.{Script}
use Rattle.ds_model.specs.declared.history.Entry.{Entry}
use Rattle.ds_model.specs.declared.log.LogRecord.{LogRecord}
use Rattle.ds_model.specs.Rows.{Rows, map_of, listed}
use Rattle.ds_model.specs.History.{replay}
use Rattle.log_record.specs.declared.log.Log.{Log}
use Rattle.report_check.specs.Records.{records_of}
use Rattle.report_check.specs.Commits.{new_commits, AreLogged}
use Rattle.report_check.specs.Reports.{IsSoundReport, IsSoundAlone}
use Rattle.opening_rows.specs.declared.opening.Opening.{Opening}
use Rattle.opening_rows.specs.Reading.{AreLogsOf}
use Rattle.opening_rows.specs.Opening.{stood_for}
use Rattle.opening_rows.specs.Kept.{AreWhole, all_told, all_before}

-- the entries are sound as far as that can be told without logs, and one thread comes to these rows
pub record IsTold (script : Script) (opening : Opening) (entries : List Entry) (rows : List Row) : Type 0 where
  pub sound : IsSoundAlone script (map_of opening.rows) entries
  pub rows_are : rows ≡ listed (replay (map_of opening.rows) entries)

-- nothing follows the whole records of the logs, and the entries are sound for them
pub record BearOut (script : Script) (opening : Opening) (entries : List Entry) (logs : List Log) : Type 0 where
  pub whole : AreWhole logs
  pub sound : IsSoundReport script (map_of opening.rows) entries (records_of logs) opening.had.items

-- these logs bear the entries out, and stand for these rows; or they don't
abbrev pub Judges : Script → Opening → List Entry → List Log → Option (List Row) → Type 0
Judges script opening entries logs None = BearOut script opening entries logs → ⊥
Judges script opening entries logs (Some rows) = BearOut script opening entries logs × (rows ≡ stood_for logs)

-- the same of the logs of a disk
pub record IsJudged (script : Script) (opening : Opening) (entries : List Entry) (c : Contents) (rows : Option (List Row)) : Type 0 where
  pub logs : List Log
  pub are : AreLogsOf c.logs logs
  pub judges : Judges script opening entries logs rows

-- ---- what is kept of logs is enough

-- commits and their transactions' records are those of the whole logs
pub record IsEnough (had : List ℕ) (logs : List (List LogRecord)) (rows : Rows) (entries : List Entry) : Type 0 where
  pub commits : new_commits (all_before had logs) (all_told had logs) ≡ new_commits had logs
  pub whole : AreLogged (all_told had logs) (new_commits had logs) rows entries → AreLogged logs (new_commits had logs) rows entries
  pub needed : AreLogged logs (new_commits had logs) rows entries → AreLogged (all_told had logs) (new_commits had logs) rows entries

abbrev pub KeptIsEnough : Type 0
KeptIsEnough = (had : List ℕ) (logs : List (List LogRecord)) (rows : Rows) (entries : List Entry) → IsEnough had logs rows entries
