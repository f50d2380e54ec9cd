-- The sixth clause of a sound disk, numbers are left: for each open row change there is one above all those of the logs, for its compensation.
use Rattle.std.specs.Prelude.{ℕ, ◌+◌, List, length, filter}
use Rattle.ds_base.specs.Ids.{IsLrsn}
use Rattle.ds_model.specs.declared.log.LogRecord.{LogRecord}
use Rattle.log_record.specs.declared.log.Log.{Log}
use Rattle.log_trans.specs.Numbers.{greatest}
use Rattle.restart_plan.specs.Given.{all_records}
use Rattle.sound_disk.specs.Settled.{is_open}

-- the row changes that are neither committed nor compensated
abbrev pub open_changes : List LogRecord → List LogRecord
open_changes records = filter (λ (r : LogRecord). is_open records r) records

-- so many numbers above the greatest one are numbers still
abbrev pub NumbersAreLeft : List Log → Type 0
NumbersAreLeft logs = IsLrsn (greatest (all_records logs) + length (open_changes (all_records logs)))
