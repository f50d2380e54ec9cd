-- What is proved of sound disks.
use Rattle.std.specs.Prelude.{◌≡◌, ℕ, ◌+◌, ◌<◌, ◌≤◌, List, [], ◌∷◌, ◌++◌, length, take, map, None, Ok}
use Rattle.ds_base.specs.declared.names.PageId.{PageId}
use Rattle.ds_disk.specs.Contents.{Contents}
use Rattle.ds_disk.specs.Pages.{page_at}
use Rattle.ds_model.specs.declared.log.LogRecord.{LogRecord}
use Rattle.ds_model.specs.Logs.{StandFor, rows_of_logs}
use Rattle.ds_model.specs.RecordBytes.{record_bytes, IsAllowed}
use Rattle.log_record.specs.declared.log.Log.{Log}
use Rattle.log_record.specs.Logs.{parts_in, parts_of}
use Rattle.log_trans.specs.Damage.{log_damage}
use Rattle.page_redo.specs.Given.{AreRecords, redo}
use Rattle.index_protocol.specs.Opening.{opening}
use Rattle.index_protocol.specs.Whole.{WholeIndex}
use Rattle.page_images.specs.Images.{Images}
use Rattle.sound_disk.specs.Whole_logs.{IsWholeLog, AreWholeLogs}
use Rattle.sound_disk.specs.Transactions.{AreTransactions}
use Rattle.sound_disk.specs.Versions.{merged, current, last_images}
use Rattle.sound_disk.specs.Index_views.{index_of}
use Rattle.sound_disk.specs.Tables.{IsWholeIndex}
use Rattle.sound_disk.specs.Sound.{IsSoundWith}

-- ---- whole records

-- what is read of the log is its records, their length and the tail
abbrev pub AreRead : Type 0
AreRead = (member : ℕ) (bytes : List ℕ) (log : Log) → IsWholeLog member bytes log → parts_in bytes ≡ Ok (parts_of log)

-- the same bytes are not the logs of two lists
abbrev pub AreTold : Type 0
AreTold = (member : ℕ) (bytes : List (List ℕ)) (a b : List Log) → AreWholeLogs member bytes a → AreWholeLogs member bytes b → a ≡ b

-- the number of the last record, or this one where there is none
abbrev pub last_number : ℕ → List LogRecord → ℕ
last_number low [] = low
last_number low (r ∷ rs) = last_number r.lrsn rs

abbrev pub with_record : Log → LogRecord → Log
with_record log r = record { member = log.member; records = log.records ++ r ∷ []; length = log.length + length (record_bytes r); tail = log.tail }

-- a record that is appended with no lower number than the last one leaves a log of whole records
abbrev pub AppendKeeps : Type 0
AppendKeeps = (member : ℕ) (bytes : List ℕ) (log : Log) (r : LogRecord) → IsWholeLog member bytes log → log.tail ≡ 0 → IsAllowed r → last_number 0 log.records ≤ r.lrsn
    → IsWholeLog member (bytes ++ record_bytes r) (with_record log r)

abbrev pub with_tail : Log → ℕ → Log
with_tail log n = record { member = log.member; records = log.records; length = log.length; tail = n }

-- and an append that was cut short leaves the records that were there
abbrev pub TornKeeps : Type 0
TornKeeps = (member : ℕ) (bytes : List ℕ) (log : Log) (r : LogRecord) (n : ℕ) → IsWholeLog member bytes log → log.tail ≡ 0 → IsAllowed r → n < length (record_bytes r)
    → IsWholeLog member (bytes ++ take n (record_bytes r)) (with_tail log n)

-- ---- transactions

-- no number of the logs can't stand there
abbrev pub HaveNoDamage : Type 0
HaveNoDamage = (bytes : List (List ℕ)) (logs : List Log) → AreWholeLogs 1 bytes logs → AreTransactions logs → log_damage logs ≡ None

-- ---- pages

-- the records of all logs that change pages may stand in logs, and their numbers rise
abbrev pub AreMerged : Type 0
AreMerged = (bytes : List (List ℕ)) (logs : List Log) → AreWholeLogs 1 bytes logs → AreTransactions logs → AreRecords (merged logs)

-- redo by the numbers of pages leads from each page of the disk to the last one
abbrev pub RedoReaches : Type 0
RedoReaches = (c : Contents) (logs : List Log) (id : PageId) → IsSoundWith c logs → redo id (current (page_at c.pages id)) (merged logs) ≡ last_images logs id

-- the machine of the index begins whole with what the pages say
abbrev pub IndexOpens : Type 0
IndexOpens = (at : Images) (records : List LogRecord) (table : ℕ) (h : IsWholeIndex at records table) → WholeIndex (opening (index_of at records table h.home))

-- ---- rows

abbrev pub records_of : List Log → List (List LogRecord)
records_of logs = map (λ (l : Log). l.records) logs

-- the logs of the disk stand for the rows of these records
abbrev pub LogsStand : Type 0
LogsStand = (c : Contents) (logs : List Log) → IsSoundWith c logs → StandFor c.logs (rows_of_logs (records_of logs))
