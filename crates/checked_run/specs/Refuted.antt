-- When the check of a run says no to its entries.
use Rattle.std.specs.Prelude.{◌⊎◌, ℕ, List, Option, None}
use Rattle.ds_disk.specs.Contents.{Contents, WhenTold}
use Rattle.ds_model.specs.declared.script.Script.{Script}
use Rattle.ds_model.specs.declared.history.Entry.{Entry}
use Rattle.ds_model.specs.Rows.{map_of}
use Rattle.report_check.specs.Reports.{IsSoundAlone}
use Rattle.opening_rows.specs.declared.opening.Opening.{Opening}
use Rattle.opening_rows.specs.Reading.{HasDamage}
use Rattle.opening_rows.specs.Judging.{IsJudged}
use Rattle.checked_run.specs.Back.{RoseTwice}

-- a log of the disk is damaged, or they don't bear the entries out
abbrev pub LogsRefute : Script → Opening → List Entry → Contents → Type 0
LogsRefute script opening printed c =
    ((member : ℕ) × ((at : ℕ) × HasDamage member at c))
    ⊎ IsJudged script opening printed c None

-- The check said no to the entries as they are printed: by the logs of a disk, whose type tells always what it holds or not; or, where
-- two calls have failed and the logs were not read, by script and rows alone.
abbrev pub IsRefuted : Type 0 → Script → Opening → List Entry → ℕ → ℕ → Option Contents → Type 0
IsRefuted tells script opening printed before now after =
    (tells → WhenTold after (LogsRefute script opening printed))
    ⊎ (RoseTwice before now × (IsSoundAlone script (map_of opening.rows) printed → ⊥))
