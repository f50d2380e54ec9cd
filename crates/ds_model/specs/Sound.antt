-- When a report is sound for a script, the rows at the opening and what is left: the logs of a disk, mostly.
use Rattle.std.specs.Prelude.{◌≡◌, List, map}
use Rattle.std.specs.List.Sorted.{IsPermutation}
use Rattle.ds_model.specs.declared.script.Script.{Script}
use Rattle.ds_model.specs.declared.report.Report.{Report}
use Rattle.ds_model.specs.Rows.{Rows, listed}
use Rattle.ds_model.specs.Transactions.{placed}
use Rattle.ds_model.specs.declared.history.Entry.{Entry}
use Rattle.ds_model.specs.History.{played, replay, IsLegal, IsInOrder}
use Rattle.ds_model.specs.Told.{entry_of}

-- each transaction of the script stands once and no other, in order, and every read is that of one thread
pub record IsSoundHistory (script : Script) (opening : Rows) (history : List Entry) : Type 0 where
  pub each_once : IsPermutation (map played history) (placed script)
  pub order : IsInOrder history
  pub legal : IsLegal opening history

-- the report tells the history, and the rows after it
pub record Tells (script : Script) (opening : Rows) (history : List Entry) (report : Report) : Type 0 where
  pub entries : report.entries ≡ map (entry_of script) history
  pub rows : report.rows ≡ listed (replay opening history)

-- the report tells a sound history, and what is left stands for it
pub record IsSound (script : Script) (opening : Rows) (report : Report) (Stands : List Entry → Type 0) : Type 0 where
  pub history : List Entry
  pub sound : IsSoundHistory script opening history
  pub tells : Tells script opening history report
  pub stands : Stands history
