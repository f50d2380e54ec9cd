-- What a group restart's appends keep of sound logs.
use Rattle.std.specs.Prelude.{◌≡◌, ℕ, ◌<◌, true, false, List, [], ◌∷◌, ◌++◌, length, take, map}
use Rattle.std.specs.List.{list_all, AllByRecursion}
use Rattle.ds_base.specs.declared.names.PageId.{PageId}
use Rattle.ds_disk.specs.Contents.{Contents, log_of, with_log}
use Rattle.ds_model.specs.declared.log.LogRecord.{LogRecord}
use Rattle.ds_model.specs.declared.log.Body.{Body}
use Rattle.ds_model.specs.declared.log.Body.TheVariants as body
use Rattle.ds_model.specs.RecordBytes.{record_bytes, log_bytes}
use Rattle.page_format.specs.Fields.{is_old}
use Rattle.log_record.specs.declared.log.Log.{Log}
use Rattle.log_merge.specs.Merging.{kept}
use Rattle.page_images.specs.Images.{Images}
use Rattle.sound_disk.specs.Whole_logs.{AreWholeLogs}
use Rattle.sound_disk.specs.Transactions.{AreTransactions}
use Rattle.sound_disk.specs.Turns.{ChangeInTurn}
use Rattle.sound_disk.specs.Numbers_left.{NumbersAreLeft}
use Rattle.sound_disk.specs.Checkpoints.{is_done, AreCheckpointed}
use Rattle.sound_disk.specs.Versions.{merged, AreVersions}
use Rattle.sound_disk.specs.Laws.{records_of, with_tail}
use Rattle.sound_appends.specs.Appends.{Appends, AppendsAll}

-- what is appended stands behind all merged records, if it is merged
abbrev pub StandsBehind : Type 0
StandsBehind = (logs after : List Log) (r : LogRecord) → Appends logs r after → merged after ≡ merged logs ++ kept (r ∷ [])

-- ---- whole records

-- the disk has the record behind the others of a log without a tail
abbrev pub KeepsWhole : Type 0
KeepsWhole = (c : Contents) (logs after : List Log) (r : LogRecord) (h : Appends logs r after) → AreWholeLogs 1 c.logs logs → h.log.tail ≡ 0
    → AreWholeLogs 1 (with_log c h.log.member (log_of c.logs h.log.member ++ record_bytes r)).logs after

-- or a proper front of it
abbrev pub TornKeepsWhole : Type 0
TornKeepsWhole = (c : Contents) (logs after : List Log) (r : LogRecord) (n : ℕ) (h : Appends logs r after) → AreWholeLogs 1 c.logs logs → h.log.tail ≡ 0 → n < length (record_bytes r)
    → AreWholeLogs 1 (with_log c h.log.member (log_of c.logs h.log.member ++ take n (record_bytes r))).logs (h.front ++ with_tail h.log n ∷ h.back)

-- a log is cut to its whole records
abbrev pub CutKeepsWhole : Type 0
CutKeepsWhole = (c : Contents) (front : List Log) (log : Log) (back : List Log) → AreWholeLogs 1 c.logs (front ++ log ∷ back)
    → AreWholeLogs 1 (with_log c log.member (take log.length (log_of c.logs log.member))).logs (front ++ with_tail log 0 ∷ back)

-- ---- the clauses that speak of records alone

abbrev pub KeepsTransactions : Type 0
KeepsTransactions = (logs after : List Log) (r : LogRecord) → Appends logs r after → AreTransactions logs → AreTransactions after

abbrev pub KeepsTurns : Type 0
KeepsTurns = (logs after : List Log) (r : LogRecord) → Appends logs r after → ChangeInTurn logs → ChangeInTurn after

-- a number that is drawn is that of a compensation, of which one less is wanted then
abbrev pub KeepsNumbers : Type 0
KeepsNumbers = (logs after : List Log) (r : LogRecord) → Appends logs r after → AreTransactions logs → NumbersAreLeft logs → NumbersAreLeft after

pub record AreSoundLogs (logs : List Log) : Type 0 where
  pub transactions : AreTransactions logs
  pub turns : ChangeInTurn logs
  pub numbers : NumbersAreLeft logs

-- so do all records that are appended, one after the other
abbrev pub KeepsAll : Type 0
KeepsAll = (writes : List (ℕ × LogRecord)) (logs after : List Log) → AppendsAll logs writes after → AreSoundLogs logs → AreSoundLogs after

-- tails don't matter to them
abbrev pub SameRecordsKeep : Type 0
SameRecordsKeep = (logs others : List Log) → records_of logs ≡ records_of others → AreSoundLogs logs → AreSoundLogs others

-- ---- checkpoints, and the pages of the disk

-- what stands in the log before a Checkpoint needn't be read again
abbrev pub IsDoneBefore : Images → Log → Body → Type 0
IsDoneBefore at log (body.RowChange change) = Unit {0}
IsDoneBefore at log (body.Compensation change undone) = Unit {0}
IsDoneBefore at log (body.System patches) = Unit {0}
IsDoneBefore at log body.Commit = Unit {0}
IsDoneBefore at log body.Ended = Unit {0}
IsDoneBefore at log (body.Checkpoint offset) = list_all (is_done at log.records) log.records ≡ true
IsDoneBefore at log body.RestartEnd = Unit {0}

abbrev pub KeepsCheckpoints : Type 0
KeepsCheckpoints = (at : Images) (logs after : List Log) (r : LogRecord) (h : Appends logs r after) → h.log.length ≡ length (log_bytes h.log.records) → IsDoneBefore at h.log r.body
    → AreCheckpointed at logs → AreCheckpointed at after

-- no page of version 1 is left before a RestartEnd
abbrev pub AreRenewedBefore : Images → Body → Type 0
AreRenewedBefore at (body.RowChange change) = Unit {0}
AreRenewedBefore at (body.Compensation change undone) = Unit {0}
AreRenewedBefore at (body.System patches) = Unit {0}
AreRenewedBefore at body.Commit = Unit {0}
AreRenewedBefore at body.Ended = Unit {0}
AreRenewedBefore at (body.Checkpoint offset) = Unit {0}
AreRenewedBefore at body.RestartEnd = (id : PageId) → is_old (at id) ≡ false

-- the pages of the disk are versions still
abbrev pub KeepsVersions : Type 0
KeepsVersions = (at : Images) (logs after : List Log) (r : LogRecord) → Appends logs r after → AreRenewedBefore at r.body → AreVersions at logs → AreVersions at after

-- ---- a stop inside an append

abbrev pub HaveNoTails : List Log → Type 0
HaveNoTails logs = AllByRecursion (λ (l : Log). l.tail ≡ 0) logs

-- records for one member's log of which the first bytes alone were appended: what is left are sound logs
abbrev pub AppendStops : Type 0
AppendStops = (c : Contents) (logs after : List Log) (member : ℕ) (records : List LogRecord) (n : ℕ) → AppendsAll logs (map (λ (r : LogRecord). (member, r)) records) after
    → AreWholeLogs 1 c.logs logs → HaveNoTails logs → AreSoundLogs logs
    → (left : List Log) × AreWholeLogs 1 (with_log c member (log_of c.logs member ++ take n (log_bytes records))).logs left × AreSoundLogs left
