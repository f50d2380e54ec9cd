-- The log of a member and its log buffer, beside the locks of its transactions.
use Rattle.std.specs.Prelude.{◌≡◌, ◌≢◌, ℕ, ◌-◌, ◌≤◌, ◌++◌, ◌&&◌, nat_lt, Bool, true, false, List, [], length, take, Some}
use Rattle.std.specs.List.{AllByRecursion}
use Rattle.ds_base.specs.declared.names.Sizes.{Sizes}
use Rattle.ds_disk.specs.Contents.{Contents, log_of}
use Rattle.ds_model.specs.Rows.{Spot}
use Rattle.ds_model.specs.RecordBytes.{IsAllowed, log_bytes}
use Rattle.ds_model.specs.declared.log.LogRecord.{LogRecord}
use Rattle.log_reader.specs.Keeping.{AreWhole}
use Rattle.log_rows.specs.Rows.{touches}
use Rattle.log_trans.specs.Courses.{open_trans}
use Rattle.log_trans.specs.declared.opened.OpenTran.{OpenTran}
use Rattle.log_appends.specs.Appends.{AreLastFrom}
use Rattle.lock_world.specs.Books.{IsBook}
use Rattle.member_marks.specs.Local.{Reaches}
use Rattle.member_marks.specs.State.{MarksState}
use Rattle.member_intents.specs.declared.intent.Intent.{Intent}
use Rattle.member_intents.specs.declared.outcome.Answered.{Answered}
use Rattle.member_intents.specs.declared.outcome.Sent.{Sent}
use Rattle.member_effects.specs.Puts.{event_records}
use Rattle.member_resources.specs.Events.{Drive, Happens, World}
use Rattle.member_resources.specs.Held.{Held, IsNew, begun}
use Rattle.put_records.specs.Puts.{is_append, is_done}
use Rattle.row_claims.specs.Given.{HasLocked}
use Rattle.row_claims.specs.Given.{ArePlain, IsUnfailed}
use Rattle.row_claims.specs.Rows.{AllClosed, RowsLocked}

-- The log has these bytes, which are whole records, and these records wait in the buffer, which are allowed, and none of them a Checkpoint. Wherever
-- reading of the log may begin, the rows of its last records, and of those that wait, are locked, or the transaction is closed on disk.
pub record LogLocked (log : List ℕ) (pend : List LogRecord) (s : MarksState) : Type 0 where
  pub whole : AreWhole log
  pub spelled : s.log.pending ≡ log_bytes pend
  pub allowed : AllByRecursion IsAllowed pend
  pub plain : ArePlain pend
  pub locked : (start : ℕ) (back : List LogRecord) → AreLastFrom log start back → RowsLocked back pend s

-- ---- what a failure leaves

-- the transaction has locked each row that it has changed
pub record HasAllLocked (s : MarksState) (t : OpenTran) : Type 0 where
  pub named : t.id ≢ 0
  pub rows : (spot : Spot) → touches t spot ≡ true → HasLocked s t.id spot

-- so have all that the last records of the log leave open, of which so many bytes of the buffer are the end
abbrev pub LeftIsLocked : Type 0
LeftIsLocked = (log : List ℕ) (pend : List LogRecord) (s : MarksState) (n start : ℕ) (records : List LogRecord)
    → LogLocked log pend s → AreLastFrom (log ++ take n s.log.pending) start records → AllByRecursion (HasAllLocked s) (open_trans records)

-- ---- so it is of a member that holds nothing, and behind local moves

abbrev pub LockedBegins : Type 0
LockedBegins = (log : List ℕ) (member : ℕ) (sizes : Sizes) (h : Held)
    → AreWhole log → IsBook h.marks.locks → IsNew member sizes h → ((start : ℕ) (back : List LogRecord) → AreLastFrom log start back → AllClosed back) → LogLocked log [] h.marks

abbrev pub LockedReaches : Type 0
LockedReaches = (log : List ℕ) (pend : List LogRecord) (s t : MarksState) → Reaches s t → LogLocked log pend s → LogLocked log pend t

-- ---- and behind events

-- the disk tells these bytes as the log of the member
pub record TellsLog (log : List ℕ) (drive : Drive) (member : ℕ) : Type 0 where
  pub contents : Contents
  pub told : drive.contents ≡ Some contents
  pub there : nat_lt (member - 1) (length contents.logs) ≡ true
  pub bytes : log_of contents.logs member ≡ log

-- where those that wait are appended
abbrev pub log_after : Bool → List ℕ → List LogRecord → List ℕ
log_after true log pend = log ++ log_bytes pend
log_after false log pend = log

-- and else the new records stand behind them
abbrev pub pend_after : Bool → List LogRecord → List LogRecord → List LogRecord
pend_after true pend new = []
pend_after false pend new = pend ++ new

pub record LogStays (appends : Bool) (log : List ℕ) (pend new : List LogRecord) (drive : Drive) (s : MarksState) : Type 0 where
  pub tells : TellsLog (log_after appends log pend) drive s.member
  pub locked : LogLocked (log_after appends log pend) (pend_after appends pend new) s

abbrev pub LockedStay : Type 0
LockedStay = (log : List ℕ) (pend : List LogRecord) (w v : World) (h k : Held) (i : Intent) (place : ℕ) (sent : Sent) (a : Answered)
    → (happens : Happens w h i place sent a v k) → IsUnfailed a → h.marks.log.stable ≤ w.facility.counter → TellsLog log w.drive h.marks.member
    → LogLocked log pend h.marks → LogStays (is_done a && is_append i) log pend (event_records (begun happens.ready place).marks i happens.plan a) v.drive k.marks
