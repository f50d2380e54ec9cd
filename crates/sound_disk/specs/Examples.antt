-- Small disks that are sound, and some that are not, each for one clause.
use Rattle.std.specs.Prelude.{ℕ, zero, suc, ◌+◌, ◌-◌, ◌^◌, List, [], ◌∷◌, length, replicate, None}
use Rattle.std.specs.FinMap as map
use Rattle.ds_base.specs.declared.names.PageId.{PageId}
use Rattle.ds_disk.specs.Contents.{Contents}
use Rattle.ds_disk.specs.Pages.{Pages}
use Rattle.ds_model.specs.declared.log.LogRecord.{LogRecord}
use Rattle.ds_model.specs.declared.log.RowChange.{RowChange}
use Rattle.ds_model.specs.declared.log.Body.{Body}
use Rattle.ds_model.specs.declared.log.Body.TheVariants as body
use Rattle.ds_model.specs.declared.log.Version.TheVariants as version
use Rattle.ds_model.specs.RecordBytes.{log_bytes}
use Rattle.log_record.specs.declared.log.Log.{Log}

-- ---- disks with one log that is not empty

abbrev pub log_with : ℕ → List LogRecord → Log
log_with member records = record { member = member; records = records; length = length (log_bytes records); tail = 0 }

-- the logs of so many members from this one on
abbrev pub empty_logs : ℕ → ℕ → List Log
empty_logs member zero = []
empty_logs member (suc n) = log_with member [] ∷ empty_logs (member + 1) n

-- the log of member 1 has these records, the others have none
abbrev pub first_log : List LogRecord → List Log
first_log records = log_with 1 records ∷ empty_logs 2 31

-- no page was written, or these were
abbrev pub disk_of : Pages → List LogRecord → Contents
disk_of pages records = record { pages = pages; logs = log_bytes records ∷ replicate 31 [] }

-- ---- records

abbrev pub record_of : ℕ → ℕ → Body → LogRecord
record_of lrsn tran b = record { version = version.Two; lrsn = lrsn; tran = tran; body = b }

-- a transaction committed, and the group was closed: reading begins at the checkpoint, behind the 30 bytes of the commit
abbrev pub closed_log : List LogRecord
closed_log = record_of 1 1 body.Commit ∷ record_of 1 0 (body.Checkpoint 30) ∷ record_of 1 0 body.RestartEnd ∷ []

-- a number falls
abbrev pub falling_log : List LogRecord
falling_log = record_of 2 2 body.Commit ∷ record_of 1 1 body.Commit ∷ []

-- a transaction commits twice
abbrev pub twice_committed : List LogRecord
twice_committed = record_of 1 1 body.Commit ∷ record_of 2 1 body.Commit ∷ []

-- reading is to begin inside a record
abbrev pub lost_start : List LogRecord
lost_start = record_of 1 1 body.Commit ∷ record_of 1 0 (body.Checkpoint 29) ∷ []

-- a row is changed for which no page is there
abbrev pub row_change : ℕ → RowChange
row_change key = record { table = 1; key = key; place = record { page = 1; slot = 0 }; before = None; after = None }

abbrev pub lost_row : List LogRecord
lost_row = record_of 1 1 (body.RowChange (row_change 10)) ∷ []

-- two open transactions change one row
abbrev pub two_writers : List LogRecord
two_writers = record_of 1 1 (body.RowChange (row_change 10)) ∷ record_of 2 2 (body.RowChange (row_change 10)) ∷ []

-- no number is left for the compensation of an open row change
abbrev pub last_number_used : List LogRecord
last_number_used = record_of (2 ^ 80 - 1) (2 ^ 80 - 1) (body.RowChange (row_change 10)) ∷ []

-- a page that no record has changed
abbrev pub stray_page : Pages
stray_page = map.insert map.empty (record { set = 1; number = 1 }) (1 ∷ [])
