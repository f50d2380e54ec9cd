-- That what a restart has taken back is closed in the log on disk.
use Rattle.std.specs.Prelude.{◌≡◌, ◌≢◌, ◌⊎◌, ℕ, ◌+◌, ◌-◌, ◌^◌, ◌<◌, ◌≤◌, nat_lt, Bool, true, false, List, [], ◌∷◌, ◌++◌, length, map, slice_get, Option, None, Some, IfSome}
use Rattle.std.specs.List.{AllByRecursion}
use Rattle.ds_disk.specs.Contents.{Contents, log_of}
use Rattle.ds_model.specs.RecordBytes.{IsAllowed, IsNumber, log_bytes}
use Rattle.ds_model.specs.Rows.{Spot}
use Rattle.ds_model.specs.declared.log.Body.{Body}
use Rattle.ds_model.specs.declared.log.Body.TheVariants as body
use Rattle.ds_model.specs.declared.log.LogRecord.{LogRecord}
use Rattle.ds_model.specs.declared.log.Version.TheVariants as version
use Rattle.log_appends.specs.Appends.{AreLastFrom}
use Rattle.log_appends.specs.Rests.{IsRest}
use Rattle.log_opens.specs.Opens.{has_opened}
use Rattle.log_opens.specs.Puts.{HasAllowed}
use Rattle.log_reader.specs.Keeping.{AreWhole}
use Rattle.log_rows.specs.Rows.{has_changed, is_closed}
use Rattle.log_trans.specs.declared.opened.OpenTran.{OpenTran}
use Rattle.log_trans.specs.Courses.{open_trans}
use Rattle.member_intents.specs.declared.outcome.Answered.{Answered}
use Rattle.member_intents.specs.declared.outcome.Answered.TheVariants as answered
use Rattle.member_log.specs.Buffers.{LogBuffer}
use Rattle.restart_records.specs.declared.trans.RestartStage.{RestartStage}
use Rattle.restart_records.specs.declared.trans.RestartStage.TheVariants as stage
use Rattle.restart_records.specs.declared.trans.RestartTran.{RestartTran}
use Rattle.restart_records.specs.Maps.{place_at}
use Rattle.restart_records.specs.Own.{OwnState}
use Rattle.restart_records.specs.Trans.{TransState, is_open, no_trans}
use Rattle.restart_marks.specs.declared.intent.RestartSent.{RestartSent}
use Rattle.restart_marks.specs.State.{IsFresh, RestartState}
use Rattle.restart_resources.specs.Calls.{Drive}
use Rattle.restart_resources.specs.Events.{Happens, World}
use Rattle.restart_resources.specs.Held.{Held}

-- ---- a log, wherever reading of it may begin

-- its last records close the transaction
abbrev pub IsClosedIn : List ℕ → ℕ → Type 0
IsClosedIn log id = (start : ℕ) (back : List LogRecord) → AreLastFrom log start back → is_closed back id ≡ true

-- a transaction for which its last records have changed a row is closed by them, or is one of these and has changed the row
abbrev pub LeavesOpen : List ℕ → List OpenTran → Type 0
LeavesOpen log ts = (start : ℕ) (back : List LogRecord) → AreLastFrom log start back
    → (id : ℕ) (spot : Spot) → id ≢ 0 → has_changed back id spot ≡ true → (is_closed back id ≡ true) ⊎ (has_opened ts id spot ≡ true)

-- the same is left open
abbrev pub OpensAlike : List ℕ → Type 0
OpensAlike log = (start : ℕ) (back : List LogRecord) → AreLastFrom log start back → LeavesOpen log (open_trans back)

-- ---- the records that a restart puts

-- it takes a change back, or ends its transaction
abbrev pub is_back : Body → Bool
is_back (body.RowChange c) = false
is_back (body.Compensation c undone) = true
is_back (body.System patches) = false
is_back body.Commit = false
is_back body.Ended = true
is_back (body.Checkpoint offset) = false
is_back body.RestartEnd = false

-- These records wait in the buffer, and each is allowed; and the last number is one of a record.
pub record Waits (pend : List LogRecord) (b : LogBuffer) : Type 0 where
  pub spelled : b.pending ≡ log_bytes pend
  pub allowed : AllByRecursion IsAllowed pend
  pub back : AllByRecursion (λ (r : LogRecord). is_back r.body ≡ true) pend
  pub number : IsNumber version.Two b.last

-- ---- one transaction, where the log has these bytes on disk, and these records wait

-- an Ended record of it is on disk, or waits
abbrev pub HasEnd : List ℕ → List LogRecord → ℕ → Type 0
HasEnd log pend id = IsClosedIn log id ⊎ (is_closed pend id ≡ true)

-- one whose Ended record was put has it, and one that is over has it on disk
pub record TranCloses (log : List ℕ) (pend : List LogRecord) (x : RestartTran) : Type 0 where
  pub named : x.tran.id ≢ 0
  pub has : HasAllowed x.tran
  pub ended : is_open x ≡ false → HasEnd log pend x.tran.id
  pub over : x.stage ≡ stage.Over → IsClosedIn log x.tran.id

-- ---- all of a restart

-- the transaction of this number is there
abbrev pub IsOf : ℕ → Option RestartTran → Type 0
IsOf id None = ⊥
IsOf id (Some x) = x.tran.id ≡ id

-- how many aren't over
abbrev pub one_left : RestartStage → ℕ
one_left stage.Open = 1
one_left stage.Ended = 1
one_left stage.Over = 0

abbrev pub left_among : List RestartTran → ℕ
left_among [] = 0
left_among (x ∷ xs) = one_left x.stage + left_among xs

-- At the place of a number its transaction stands; and of the one at the place that is known as ending the Ended record was put. No fewer are counted
-- as left than aren't over, if they can be counted with 64 bits.
pub record TransClose (log : List ℕ) (pend : List LogRecord) (t : TransState) : Type 0 where
  pub list : AllByRecursion (TranCloses log pend) t.list
  pub places : (id at : ℕ) → place_at t.places id ≡ Some at → IsOf id (slice_get t.list at)
  pub ending : IfSome t.ending (λ (at : ℕ). IfSome (slice_get t.list at) (λ (x : RestartTran). x.stage ≡ stage.Ended))
  pub left : length t.list < 2 ^ 64 → left_among t.list ≤ t.left

abbrev pub trans_of : List RestartTran → List OpenTran
trans_of list = map (λ (x : RestartTran). x.tran) list

-- none of their numbers is above this one
abbrev pub ListedBelow : ℕ → List RestartTran → Type 0
ListedBelow c list = AllByRecursion (λ (t : OpenTran). t.id ≤ c) (trans_of list)

-- Until the log is read, no record waits, and nothing is known of what it leaves open.
pub record IsUnread (log : List ℕ) (pend : List LogRecord) (s : RestartState) : Type 0 where
  pub idle : pend ≡ []
  pub none : s.trans ≡ no_trans
  pub alike : OpensAlike log

-- Once it is, it leaves nothing open but the restart's transactions, and so many bytes are whole records as were told, until others go behind them.
pub record IsRead (log rest : List ℕ) (s : RestartState) : Type 0 where
  pub opens : LeavesOpen log (trans_of s.trans.list)
  pub tail : s.own.tail ≡ length rest
  pub long : s.own.tail ≢ 0 → s.own.long ≡ length log

-- The log on disk has these whole records, and then a rest that is none; and these records wait in the log buffer. Each names one of the restart's
-- transactions, so by no number above all of theirs.
pub record RestartCloses (log rest : List ℕ) (pend : List LogRecord) (s : RestartState) : Type 0 where
  pub whole : AreWhole log
  pub is_rest : IsRest rest
  pub waits : Waits pend s.log
  pub trans : TransClose log pend s.trans
  pub unread : s.own.is_read ≡ false → IsUnread log pend s
  pub read : s.own.is_read ≡ true → IsRead log rest s
  pub named : (c : ℕ) → ListedBelow c s.trans.list → AllByRecursion (λ (r : LogRecord). r.tran ≤ c) pend

-- ---- so it is where a restart begins, over a log that leaves the same open wherever reading of it may begin

abbrev pub ClosesBegin : Type 0
ClosesBegin = (log rest : List ℕ) (member : ℕ) (s : RestartState) → AreWhole log → IsRest rest → OpensAlike log → IsFresh member s → RestartCloses log rest [] s

-- ---- and behind events, over a disk that tells what it holds

-- the log of the member has these bytes
pub record HasLog (drive : Drive) (member : ℕ) (bytes : List ℕ) : Type 0 where
  pub contents : Contents
  pub told : drive.contents ≡ Some contents
  pub there : nat_lt (member - 1) (length contents.logs) ≡ true
  pub log : log_of contents.logs member ≡ bytes

-- what was read are last records of the log, all bytes of its whole records, and the number of those behind them
pub record ReadsAll (log rest : List ℕ) (o : OwnState) : Type 0 where
  pub start : ℕ
  pub last : AreLastFrom (log ++ rest) start o.records
  pub long : o.long ≡ length log
  pub tail : o.tail ≡ length rest

-- So it is of what an event leaves: records were put behind those that wait, or all that waited are on disk; and the rest was cut off, or not.
pub record StillCloses (log rest : List ℕ) (pend : List LogRecord) (drive : Drive) (s : RestartState) : Type 0 where
  pub more : List LogRecord
  pub new : List LogRecord
  pub left : List LogRecord
  pub behind : List ℕ
  pub goes : ((more ≡ []) × (left ≡ pend ++ new)) ⊎ ((more ≡ pend) × (left ≡ new))
  pub cut : (behind ≡ rest) ⊎ (behind ≡ [])
  pub tells : HasLog drive s.member ((log ++ log_bytes more) ++ behind)
  pub closes : RestartCloses (log ++ log_bytes more) behind left s

abbrev pub ClosesStay : Type 0
ClosesStay = (log rest : List ℕ) (pend : List LogRecord) (u v : World) (h k : Held) (x : RestartSent) (a : Answered)
    → Happens u h x a v k → a ≢ answered.Failed → (h.marks.own.is_read ≡ false → k.marks.own.is_read ≡ true → ReadsAll log rest k.marks.own)
    → HasLog u.drive h.marks.member (log ++ rest) → RestartCloses log rest pend h.marks → StillCloses log rest pend v.drive k.marks
