-- What a group restart's appends make of the rows and of the pages of tables: the fourth clause of a sound disk.
use Rattle.std.specs.Prelude.{◌≡◌, ℕ, ◌-◌, false, List, [], ◌∷◌, ◌++◌, length, take, map, slice_get, None, Some}
use Rattle.std.specs.List.{AllByRecursion}
use Rattle.ds_disk.specs.Contents.{Contents, log_of, with_log}
use Rattle.ds_model.specs.declared.log.LogRecord.{LogRecord}
use Rattle.ds_model.specs.declared.log.RowChange.{RowChange}
use Rattle.ds_model.specs.declared.log.Body.{Body}
use Rattle.ds_model.specs.declared.log.Body.TheVariants as body
use Rattle.ds_model.specs.RecordBytes.{log_bytes}
use Rattle.log_record.specs.declared.log.Log.{Log}
use Rattle.page_images.specs.Images.{Images}
use Rattle.page_chain.specs.Chains.{row_patch}
use Rattle.page_redo.specs.Rows.{change_fault}
use Rattle.sound_disk.specs.Whole_logs.{AreWholeLogs}
use Rattle.sound_disk.specs.Transactions.{AreTransactions, EachFollows}
use Rattle.sound_disk.specs.Turns.{ChangeInTurn}
use Rattle.sound_disk.specs.Rows_there.{row_after, IsPlaceOf, BodyStood, BeforesAgree}
use Rattle.sound_disk.specs.Tables.{AreTables}
use Rattle.sound_disk.specs.Versions.{merged, last_images, AreVersions}
use Rattle.sound_disk.specs.Checkpoints.{AreCheckpointed}
use Rattle.sound_appends.specs.Appends.{course_of, Appends, AppendsAll}
use Rattle.sound_appends.specs.Laws.{AreSoundLogs, IsDoneBefore, AreRenewedBefore, HaveNoTails}

-- ---- the logs of a sound disk, but for its pages

-- the clauses (i), (ii) and (v), and of (iv) that each row record tells the row before it
pub record AreRowLogs (bytes : List (List ℕ)) (logs : List Log) : Type 0 where
  pub whole : AreWholeLogs 1 bytes logs
  pub transactions : AreTransactions logs
  pub turns : ChangeInTurn logs
  pub befores : BeforesAgree [] (merged logs)

-- the merged records fit each other, as those of one log do
abbrev pub MergedFollow : Type 0
MergedFollow = (bytes : List (List ℕ)) (logs : List Log) → AreWholeLogs 1 bytes logs → AreTransactions logs → EachFollows [] (merged logs)

-- ---- the row of an open change

-- the last row change of the transaction in its log that isn't undone, where it has no Commit
pub record IsLastOpen (log : Log) (tran : ℕ) (change : RowChange) : Type 0 where
  pub made : LogRecord
  pub last : slice_get (course_of log tran).undo (length (course_of log tran).undo - 1) ≡ Some made
  pub changes : made.body ≡ body.RowChange change
  pub uncommitted : (course_of log tran).is_committed ≡ false

-- no other record has changed its row since: the row is what it left
abbrev pub LastOpenStands : Type 0
LastOpenStands = (bytes : List (List ℕ)) (front : List Log) (log : Log) (back : List Log) (tran : ℕ) (change : RowChange) → AreRowLogs bytes (front ++ log ∷ back) → (tran ≡ 0 → ⊥) → IsLastOpen log tran change
    → row_after (merged (front ++ log ∷ back)) change.table change.key ≡ change.after

-- ---- tables

-- the slot that the record tells of is its key's
abbrev pub HasItsSlot : Images → Body → Type 0
HasItsSlot at (body.RowChange change) = IsPlaceOf at change.table change.key change.place
HasItsSlot at (body.Compensation change undone) = IsPlaceOf at change.table change.key change.place
HasItsSlot at (body.System patches) = Unit {0}
HasItsSlot at body.Commit = Unit {0}
HasItsSlot at body.Ended = Unit {0}
HasItsSlot at (body.Checkpoint offset) = Unit {0}
HasItsSlot at body.RestartEnd = Unit {0}

-- no row has left the slot in which a record changed it
abbrev pub RowsStayInPlace : List Log → Type 0
RowsStayInPlace logs = AllByRecursion (λ (r : LogRecord). HasItsSlot (last_images logs) r.body) (merged logs)

-- so it is after all records of a sound disk: neither a row record nor one of other patches takes a slot from its key
abbrev pub StayInPlace : Type 0
StayInPlace = (bytes : List (List ℕ)) (logs : List Log) → AreWholeLogs 1 bytes logs → AreTransactions logs → AreTables logs → RowsStayInPlace logs

-- one of the records has made the change
pub record IsMadeBy (records : List LogRecord) (change : RowChange) : Type 0 where
  pub front : List LogRecord
  pub it : LogRecord
  pub back : List LogRecord
  pub split : records ≡ front ++ it ∷ back
  pub changes : it.body ≡ body.RowChange change

-- so the slot of each change is there still, and no field of its page is in the way
abbrev pub FindsItsSlot : Type 0
FindsItsSlot = (bytes : List (List ℕ)) (logs : List Log) (change : RowChange) → AreWholeLogs 1 bytes logs → AreTransactions logs → AreTables logs → IsMadeBy (merged logs) change
    → change_fault (row_patch change).page change (last_images logs (row_patch change).page) ≡ None

-- the logs of a sound disk, of which each row record tells the row before it
pub record AreTableLogs (bytes : List (List ℕ)) (logs : List Log) : Type 0 where
  pub whole : AreWholeLogs 1 bytes logs
  pub transactions : AreTransactions logs
  pub turns : ChangeInTurn logs
  pub tables : AreTables logs

-- a compensation meets the row that it tells, and which the records before it left
abbrev pub MeetsItsRow : Type 0
MeetsItsRow = (bytes : List (List ℕ)) (logs after : List Log) (r : LogRecord) → Appends logs r after → AreTableLogs bytes logs → BodyStood (merged logs) r.lrsn r.body

-- the pages after all records, and this one, are tables still
abbrev pub KeepsTables : Type 0
KeepsTables = (bytes : List (List ℕ)) (logs after : List Log) (r : LogRecord) → Appends logs r after → AreTableLogs bytes logs → AreTables after

-- ---- several records

-- the clauses of a sound disk but the first, with these pages
pub record AreSoundOn (at : Images) (logs : List Log) : Type 0 where
  pub records : AreSoundLogs logs
  pub versions : AreVersions at logs
  pub tables : AreTables logs
  pub checkpoints : AreCheckpointed at logs

-- what stands in the log before a Checkpoint needn't be read again, and no page of version 1 is left before a RestartEnd
abbrev pub IsSettledBefore : Images → Log → Body → Type 0
IsSettledBefore at log b = IsDoneBefore at log b × AreRenewedBefore at b

-- so it is with each of the records
abbrev pub AreSettledBefore : Images → (logs : List Log) (writes : List (ℕ × LogRecord)) (after : List Log) → AppendsAll logs writes after → Type 0
AreSettledBefore at logs [] after h = Unit {0}
AreSettledBefore at logs (w ∷ ws) after h = IsSettledBefore at h.1.log w.1.body × AreSettledBefore at h.0 ws after h.3

-- what a restart appends to one member's log
abbrev pub for_member : ℕ → List LogRecord → List (ℕ × LogRecord)
for_member member records = map (λ (r : LogRecord). (member, r)) records

-- one record after the other
abbrev pub AllKeepSound : Type 0
AllKeepSound = (at : Images) (c : Contents) (logs after : List Log) (member : ℕ) (records : List LogRecord) (h : AppendsAll logs (for_member member records) after) → AreSettledBefore at logs (for_member member records) after h
    → AreWholeLogs 1 c.logs logs → HaveNoTails logs → AreSoundOn at logs → AreSoundOn at after

-- of which the first bytes alone were appended
abbrev pub StopKeepsSound : Type 0
StopKeepsSound = (at : Images) (c : Contents) (logs after : List Log) (member : ℕ) (records : List LogRecord) (n : ℕ) (h : AppendsAll logs (for_member member records) after)
    → AreSettledBefore at logs (for_member member records) after h → AreWholeLogs 1 c.logs logs → HaveNoTails logs → AreSoundOn at logs
    → (left : List Log) × AreWholeLogs 1 (with_log c member (log_of c.logs member ++ take n (log_bytes records))).logs left × AreSoundOn at left
