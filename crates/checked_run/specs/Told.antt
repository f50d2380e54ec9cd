-- What a report promises that was held against script, opening rows and logs.
use Rattle.std.specs.Prelude.{◌≡◌, ◌≢◌, ◌⊎◌, ℕ, Bool, List, [], map, Option, Some, None}
use Rattle.ds_base.specs.Causes.{Rose}
use Rattle.ds_base.specs.declared.row.Row.{Row}
use Rattle.ds_disk.specs.Contents.{Contents}
use Rattle.ds_model.specs.declared.script.Script.{Script}
use Rattle.ds_model.specs.declared.report.Report.{Report}
use Rattle.ds_model.specs.declared.report.Trace.{Trace}
use Rattle.ds_model.specs.declared.history.Entry.{Entry}
use Rattle.ds_model.specs.Rows.{Rows, map_of}
use Rattle.ds_model.specs.History.{replay}
use Rattle.ds_model.specs.Logs.{StandFor}
use Rattle.ds_model.specs.Sound.{IsSound}
use Rattle.ds_model.specs.Told.{entry_of}
use Rattle.ds_model.specs.declared.report.ReportEntry.{ReportEntry}
use Rattle.checked_run.specs.Accounts.{no_trace, TellsTrace}
use Rattle.checked_run.specs.Back.{RoseTwice}
use Rattle.checked_run.specs.Printed.{IsPrinted}
use Rattle.checked_run.specs.declared.account.Account.{Account}
use Rattle.checked_run.specs.declared.ended.Ended.{Ended}
use Rattle.checked_run.specs.declared.ended.Ended.TheVariants as ended

-- ---- the disk

-- disks of this type tell at every moment what they hold
abbrev pub TellsAlways : {D : Type 0} → (D → Option Contents) → Type 0
TellsAlways {D} contents = (disk : D) → contents disk ≢ None

-- the disk tells what it holds, and its logs stand for these rows
abbrev pub LogsStandFor : Option Contents → Rows → Type 0
LogsStandFor None rows = ⊥
LogsStandFor (Some d) rows = StandFor d.logs rows

-- What a disk that tells holds behind a report of this status: logs that stand for the rows to which the history leads from the
-- opening rows. Where two calls have failed, the logs may not have been read back: one of the run or of the closing group restart,
-- after which the disk may be dead, and one of the reading; or two of the reading, which is done again where none had failed.
pub record DiskStandsFor (tells : Type 0) (status before now : ℕ) (after : Option Contents) (opening : List Row) (history : List Entry) : Type 0 where
  pub whole : tells → status ≡ 0 → LogsStandFor after (replay (map_of opening) history)
  pub failed : tells → (RoseTwice before now → ⊥) → LogsStandFor after (replay (map_of opening) history)

-- ---- the report

-- a report of these rows alone
abbrev pub plain_report : List Row → ℕ → Report
plain_report rows status = record { entries = []; trace = no_trace; rows = rows; status = status }

-- over the rows before the run, how often the disk had failed before it and has failed now, what it tells now that it holds, and what
-- was kept of the events
pub record IsTold (tells : Type 0) (script : Script) (traced : Bool) (opening : List Row) (before now : ℕ) (after : Option Contents) (account : Account) (report : Report) : Type 0 where
  pub status : (report.status ≡ 0) ⊎ (report.status ≡ 5)
  pub cause : report.status ≡ 5 → Rose before now
  pub unfailed : report.status ≡ 0 → account.faults ≡ []
  pub trace : TellsTrace script traced account.causes report.trace
  pub sound : IsSound script (map_of opening) report (DiskStandsFor tells report.status before now after opening)

abbrev pub IfTold : Ended → (Report → Type 0) → Type 0
IfTold (ended.Told report) P = P report
IfTold (ended.Damaged volume at) P = Unit {0}
IfTold (ended.Unsound event) P = Unit {0}
IfTold ended.NoMemory P = Unit {0}

-- these entries are told in the order in which they are printed
abbrev pub TellsEntries : Script → List Entry → List ReportEntry → Type 0
TellsEntries script entries told = (printed : List Entry) × (IsPrinted entries printed × (told ≡ map (entry_of script) printed))

-- ---- on the way there

-- a sound report of these entries with this trace and status, and this holds of its history
pub record Reports (script : Script) (opening : List Row) (entries : List Entry) (trace : Trace) (status : ℕ) (report : Report) (Stands : List Entry → Type 0) : Type 0 where
  pub entries_are : report.entries ≡ map (entry_of script) entries
  pub trace_is : report.trace ≡ trace
  pub status_is : report.status ≡ status
  pub sound : IsSound script (map_of opening) report Stands

-- held against script and opening rows alone: its history comes to the rows to which what is printed comes
abbrev pub IsAlone : Script → List Row → List Entry → Trace → ℕ → Report → Type 0
IsAlone script opening entries trace status report = Reports script opening entries trace status report (λ history. replay (map_of opening) history ≡ replay (map_of opening) entries)
