-- Whether pages of version 1 are written anew.
use Rattle.std.specs.Prelude.{◌-◌, Bool, false, not, ◌&&◌, ◌||◌, List, length, slice_get, Option, None, Some}
use Rattle.std.specs.List.{list_any}
use Rattle.ds_model.specs.declared.log.LogRecord.{LogRecord}
use Rattle.ds_model.specs.RecordBytes.{is_written}
use Rattle.log_record.specs.declared.log.Log.{Log}
use Rattle.restart_plan.specs.Opened.{is_end}

abbrev pub is_old : LogRecord → Bool
is_old r = not (is_written r.version)

abbrev pub is_ended : Option LogRecord → Bool
is_ended None = false
is_ended (Some last) = is_end last

-- a log with a record of version 1 asks for it until it ends with a RestartEnd of version 2
abbrev pub asks_renewal : Log → Bool
asks_renewal log = list_any (λ (r : LogRecord). is_old r) log.records && not (is_ended (slice_get log.records (length log.records - 1)))

-- so does one of which the last records were read, where one of version 1 may be before them
abbrev pub asks_behind : Bool → Log → Bool
asks_behind is_old_before log = (is_old_before || list_any (λ (r : LogRecord). is_old r) log.records) && not (is_ended (slice_get log.records (length log.records - 1)))

abbrev pub must_renew : List Log → Bool
must_renew logs = list_any (λ (log : Log). asks_renewal log) logs
