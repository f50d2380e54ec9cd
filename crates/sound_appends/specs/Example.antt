-- A restart takes an open row change back, to see that there is something to append.
use Rattle.std.specs.Prelude.{ℕ, List, [], ◌∷◌}
use Rattle.ds_model.specs.declared.log.LogRecord.{LogRecord}
use Rattle.ds_model.specs.declared.log.Body.TheVariants as body
use Rattle.log_record.specs.declared.log.Log.{Log}
use Rattle.log_record.specs.Changes.{inverse}
use Rattle.sound_disk.specs.Examples.{first_log, record_of, row_change, lost_row}
use Rattle.sound_appends.specs.Appends.{AppendsAll}

-- behind the 138 bytes of the row change and the first two of these the log is read on
abbrev pub rollback : List (ℕ × LogRecord)
rollback =
    (1, record_of 2 1 (body.Compensation (inverse (row_change 10)) 1)) ∷ (1, record_of 2 1 body.Ended) ∷ (1, record_of 2 0 (body.Checkpoint 138)) ∷ (1, record_of 2 0 body.RestartEnd) ∷ []

abbrev pub RollsBack : Type 0
RollsBack = (after : List Log) × AppendsAll (first_log lost_row) rollback after
