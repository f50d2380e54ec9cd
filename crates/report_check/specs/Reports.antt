-- When a report is sound for a script, the rows at the opening, and the logs of the disk afterwards.
use Rattle.std.specs.Prelude.{◌≡◌, ℕ, true, false, List, map}
use Rattle.std.specs.List.{AllByRecursion}
use Rattle.ds_model.specs.declared.script.Op.{Op}
use Rattle.ds_model.specs.declared.script.Script.{Script}
use Rattle.ds_model.specs.declared.fate.Refusal.{Refusal}
use Rattle.ds_model.specs.declared.fate.Refusal.TheVariants as refusal
use Rattle.ds_model.specs.declared.fate.Fate.{Fate}
use Rattle.ds_model.specs.declared.fate.Fate.TheVariants as fate
use Rattle.ds_model.specs.declared.history.Entry.{Entry}
use Rattle.ds_model.specs.declared.log.LogRecord.{LogRecord}
use Rattle.ds_model.specs.Rows.{Rows}
use Rattle.ds_model.specs.Effect.{aborts}
use Rattle.ds_model.specs.Transactions.{Placed, placed}
use Rattle.ds_model.specs.History.{played, replay, ArePrintsLegal, IsInOrder}
use Rattle.ds_model.specs.Logs.{rows_of_logs}
use Rattle.report_check.specs.Numbered.{sorted_by}
use Rattle.report_check.specs.Commits.{new_commits, AreLogged}

-- the transactions in the order of their numbers
abbrev pub by_number : List Placed → List Placed
by_number trans = sorted_by (λ (p : Placed). p.1.number) trans

-- only a transaction that asks for its abort is refused as aborted
abbrev pub RefusalFits : List Op → Refusal → Type 0
RefusalFits ops (refusal.Held name by) = Unit {0}
RefusalFits ops (refusal.Retained name by) = Unit {0}
RefusalFits ops (refusal.Deadlock cycle) = Unit {0}
RefusalFits ops (refusal.SpaceFull table pages) = Unit {0}
RefusalFits ops (refusal.RecordsFull limit) = Unit {0}
RefusalFits ops (refusal.LrsnEnd at) = Unit {0}
RefusalFits ops refusal.Memory = Unit {0}
RefusalFits ops refusal.Aborted = aborts ops ≡ true

-- and it doesn't commit
abbrev pub FateFits : List Op → Fate → Type 0
FateFits ops (fate.Committed answered reads) = aborts ops ≡ false
FateFits ops (fate.Refused refusal) = RefusalFits ops refusal
FateFits ops fate.Stopped = Unit {0}

abbrev pub AbortFits : Entry → Type 0
AbortFits e = FateFits e.tran.ops e.fate

-- one thread that runs the committed ones in this order reads what is printed, and comes to the rows that the logs stand for
pub record EndsInRows (opening : Rows) (entries : List Entry) (logs : List (List LogRecord)) : Type 0 where
  pub legal : ArePrintsLegal opening entries
  pub rows : replay opening entries ≡ rows_of_logs logs

-- The entries of a report, over a script, the rows that the logs stood for at the opening, the records of the logs afterwards, and how
-- many of them each log had at the opening.
pub record IsSoundReport (script : Script) (opening : Rows) (entries : List Entry) (logs : List (List LogRecord)) (had : List ℕ) : Type 0 where
  -- in the order of their numbers they are the script's transactions, each with the member of its part
  pub each_once : by_number (map played entries) ≡ placed script
  -- committed ones stand first, and the others by their numbers
  pub order : IsInOrder entries
  -- those of each member stand in the order of the new Commit records of its log, and each changes the rows as its log records do
  pub logged : AreLogged logs (new_commits had logs) opening entries
  pub aborts_fit : AllByRecursion AbortFits entries
  pub ends : EndsInRows opening entries logs

-- what of a sound report needs no logs
pub record IsSoundAlone (script : Script) (opening : Rows) (entries : List Entry) : Type 0 where
  pub each_once : by_number (map played entries) ≡ placed script
  pub order : IsInOrder entries
  pub aborts_fit : AllByRecursion AbortFits entries
  pub legal : ArePrintsLegal opening entries
