-- What a sound report promises.
use Rattle.std.specs.Prelude.{◌≡◌, ℕ, true, false, List, [], ◌∷◌, map}
use Rattle.std.specs.List.Sorted.{IsPermutation}
use Rattle.ds_model.specs.declared.script.Op.{Op}
use Rattle.ds_model.specs.declared.script.Script.{Script}
use Rattle.ds_model.specs.declared.fate.Fate.{Fate}
use Rattle.ds_model.specs.declared.fate.Fate.TheVariants as fate
use Rattle.ds_model.specs.declared.history.Entry.{Entry}
use Rattle.ds_model.specs.declared.log.LogRecord.{LogRecord}
use Rattle.ds_model.specs.Rows.{Rows}
use Rattle.ds_model.specs.Effect.{reads_of}
use Rattle.ds_model.specs.Transactions.{placed}
use Rattle.ds_model.specs.History.{played, after_fate, replay}
use Rattle.ds_model.specs.Logs.{rows_of_logs}
use Rattle.ds_model.specs.Told.{entry_of}
use Rattle.ds_model.specs.Sound.{IsSoundHistory}
use Rattle.report_check.specs.Reports.{IsSoundReport, IsSoundAlone}

-- each transaction of the script stands once, and no other
abbrev pub EachStandsOnce : Type 0
EachStandsOnce = (script : Script) (opening : Rows) (entries : List Entry) (logs : List (List LogRecord)) (had : List ℕ) → IsSoundReport script opening entries logs had → IsPermutation (map played entries) (placed script)

-- with the reads of one thread in place of those that were told to nobody
abbrev pub settled_fate : Rows → List Op → Fate → Fate
settled_fate rows ops (fate.Committed true reads) = fate.Committed true reads
settled_fate rows ops (fate.Committed false reads) = fate.Committed false (reads_of rows ops)
settled_fate rows ops (fate.Refused refusal) = fate.Refused refusal
settled_fate rows ops fate.Stopped = fate.Stopped

abbrev pub settled : Rows → List Entry → List Entry
settled rows [] = []
settled rows (e ∷ es) = record { member = e.member; tran = e.tran; fate = settled_fate rows e.tran.ops e.fate } ∷ settled (after_fate rows e.tran.ops e.fate) es

-- what is printed tells a sound history, of which one thread makes the rows that the logs stand for
pub record TellsHistory (script : Script) (opening : Rows) (entries : List Entry) (logs : List (List LogRecord)) : Type 0 where
  pub sound : IsSoundHistory script opening (settled opening entries)
  pub told : map (entry_of script) (settled opening entries) ≡ map (entry_of script) entries
  pub rows : replay opening (settled opening entries) ≡ rows_of_logs logs

abbrev pub TellsSoundHistory : Type 0
TellsSoundHistory = (script : Script) (opening : Rows) (entries : List Entry) (logs : List (List LogRecord)) (had : List ℕ) → IsSoundReport script opening entries logs had → TellsHistory script opening entries logs

-- what is printed tells a sound history, of which one thread makes the rows that it makes of what is printed
pub record TellsAlone (script : Script) (opening : Rows) (entries : List Entry) : Type 0 where
  pub sound : IsSoundHistory script opening (settled opening entries)
  pub told : map (entry_of script) (settled opening entries) ≡ map (entry_of script) entries
  pub rows : replay opening (settled opening entries) ≡ replay opening entries

abbrev pub TellsSoundAlone : Type 0
TellsSoundAlone = (script : Script) (opening : Rows) (entries : List Entry) → IsSoundAlone script opening entries → TellsAlone script opening entries
