-- The log of a member behind an event of it, in which no call of the disk has failed.
use Rattle.std.specs.Prelude.{◌≡◌, ◌≢◌, ℕ, ◌≤◌, ◌++◌, true, false, List, [], Option, Some, None}
use Rattle.std.specs.List.{AllByRecursion}
use Rattle.ds_disk.specs.Contents.{Contents}
use Rattle.ds_model.specs.RecordBytes.{IsAllowed, log_bytes}
use Rattle.ds_model.specs.Rows.{Spot}
use Rattle.ds_model.specs.declared.log.LogRecord.{LogRecord}
use Rattle.log_appends.specs.Appends.{AreLastFrom}
use Rattle.log_rows.specs.Rows.{has_changed, is_closed}
use Rattle.log_numbers.specs.Numbers.{AreCounted}
use Rattle.script_fates.specs.Fated.{FatesState}
use Rattle.member_intents.specs.declared.outcome.Answered.{Answered}
use Rattle.member_intents.specs.declared.outcome.Answered.TheVariants as answered
use Rattle.member_marks.specs.State.{MarksState}
use Rattle.member_resources.specs.Events.{Drive, World}
use Rattle.member_resources.specs.Held.{Held}
use Rattle.restart_records.specs.declared.trans.RestartTran.{RestartTran}
use Rattle.restart_marks.specs.declared.adopt.Adopted.{Adopted}
use Rattle.restart_marks.specs.Adopt.{adopted_after}
use Rattle.restart_marks.specs.declared.intent.RestartSent.{RestartSent}
use Rattle.restart_marks.specs.State.{RestartState}
use Rattle.restart_law.specs.Reads.{TellsLog as TellsRead}
use Rattle.restart_closing.specs.Closing.{HasLog, ListedBelow}
use Rattle.restart_resources.specs.Events as event
use Rattle.restart_resources.specs.Held as restart
use Rattle.lock_protocol.specs.Machine.{World as Locks}
use Rattle.lock_restarts.specs.Changes.{gone_by}
use Rattle.lock_restarts.specs.Courses.{IsInOrder}
use Rattle.lock_restarts.specs.Stands.{Spares}
use Rattle.failed_logs.specs.Given.{LogLocked, TellsLog}
use Rattle.failed_logs.specs.Given.{FreeHoldNothing, NoneInSlots}
use Rattle.failed_logs.specs.Given.{Restarting}
use Rattle.failed_logs.specs.Given.{Stepped}
use Rattle.failed_logs.specs.Given.{AdoptsLeft, Steps, Takes}
use Rattle.failed_logs.specs.Given.{Member}
use Rattle.failed_logs.specs.Given.{has_failed}
use Rattle.failed_logs.specs.Given.{is_restart}
use Rattle.claimed_logs.specs.Courses.{LeavesNothing, RestartCourse, StandsAlike}
use Rattle.claimed_logs.specs.Logs.{LogBelow, RestartLogged, UpLogged}

-- ---- a member that is up

-- the disk tells its log, whose rows are locked, with those of the buffer; before, the counter stood there
pub record StillLogged (drive : Drive) (before counter : ℕ) (s : MarksState) : Type 0 where
  pub log : List ℕ
  pub tells : TellsLog log drive s.member
  pub logged : UpLogged log counter s
  pub rises : before ≤ counter
  pub below : LogBelow counter log

-- Behind any event of the member, which keeps its number, with what is entered and told behind it. No record of its log names a transaction by a
-- number above the counter.
abbrev pub UpStepsLogged : Type 0
UpStepsLogged = (log : List ℕ) (m n : Member) (u v : World) (f g : FatesState) (place : ℕ) (stepped : Stepped)
    → Steps m u f place stepped n v g → has_failed stepped ≡ false → m.restart ≡ None → 1 ≤ m.holds.marks.member → n.holds.marks.member ≡ m.holds.marks.member → TellsLog log u.drive m.holds.marks.member
    → LogBelow u.facility.counter log → UpLogged log u.facility.counter m.holds.marks → StillLogged v.drive u.facility.counter v.facility.counter n.holds.marks

-- ---- one that restarts

-- An event of its restart, whose moves leave the claims of its rollbacks, but for those on the name whose record it frees.
abbrev pub RestartStepsLogged : Type 0
RestartStepsLogged = (log left : List ℕ) (w z : Locks) (u v : event.World) (h k : restart.Held) (x : RestartSent) (a : Answered)
    → event.Happens u h x a v k → a ≢ answered.Failed → IsInOrder h.marks → Spares w z h.marks.member (gone_by x) → TellsRead u.drive h.marks.member log → TellsRead v.drive k.marks.member left
    → RestartLogged log w h.marks → RestartLogged left z k.marks

-- it hands over what it has left open, if it may
abbrev pub HandedLogged : Type 0
HandedLogged = (log : List ℕ) (w : Locks) (s : RestartState) → IsInOrder s → RestartLogged log w s → RestartLogged log w (adopted_after s)

-- ---- and its log on disk

-- behind an event of its restart
abbrev pub CourseSteps : Type 0
CourseSteps = (log left : List ℕ) (w : Locks) (u v : event.World) (h k : restart.Held) (x : RestartSent) (a : Answered) (s : MarksState)
    → event.Happens u h x a v k → a ≢ answered.Failed → HasLog u.drive h.marks.member log → HasLog v.drive k.marks.member left → RestartLogged log w h.marks → RestartCourse log h.marks s → RestartCourse left k.marks s

-- No number by which records of its log, or its restart, name transactions is above this one still.
pub record StillBelow (n : ℕ) (bytes : List ℕ) (list : List RestartTran) : Type 0 where
  pub log : LogBelow n bytes
  pub names : ListedBelow n list

abbrev pub CourseBelow : Type 0
CourseBelow = (log left : List ℕ) (w : Locks) (u v : event.World) (h k : restart.Held) (x : RestartSent) (a : Answered) (s : MarksState) (n : ℕ)
    → event.Happens u h x a v k → a ≢ answered.Failed → HasLog u.drive h.marks.member log → HasLog v.drive k.marks.member left → RestartLogged log w h.marks → RestartCourse log h.marks s
    → LogBelow n log → ListedBelow n h.marks.trans.list → StillBelow n left k.marks.trans.list

-- where the member takes over what the restart hands over, and no slot of it has a transaction
abbrev pub CourseHands : Type 0
CourseHands = (log : List ℕ) (q rest : Restarting) (adopted : Option Adopted) (h k : Held)
    → IsInOrder q.resources.marks → FreeHoldNothing h.marks → NoneInSlots h.marks → Takes q adopted rest → AdoptsLeft adopted h k → RestartCourse log q.resources.marks h.marks → RestartCourse log rest.resources.marks k.marks

-- the rows of the log are locked, and it leaves the same open wherever reading may begin, as it did
pub record LockedAlike (log : List ℕ) (s : MarksState) : Type 0 where
  pub locked : LogLocked log [] s
  pub alike : StandsAlike log

-- so it is where nothing is left of the restart
abbrev pub CourseEnds : Type 0
CourseEnds = (log : List ℕ) (s : RestartState) (h : Held) → FreeHoldNothing h.marks → NoneInSlots h.marks → LeavesNothing s → RestartCourse log s h.marks → LockedAlike log h.marks

-- What it was before it has made its member live, and is then: its log is read, no transaction was counted as left, and no rest follows the whole
-- records.
pub record EndsSo (s t : RestartState) : Type 0 where
  pub was : s.own.is_read ≡ true
  pub read : t.own.is_read ≡ true
  pub tail : t.own.tail ≡ 0
  pub left : s.trans.left ≡ 0

-- where it has set a standing
abbrev pub EndsTell : Type 0
EndsTell = (u v : event.World) (h k : restart.Held) (x : RestartSent) (a : Answered) → event.Happens u h x a v k → IsInOrder h.marks → v.facility.lists.statuses ≢ u.facility.lists.statuses → EndsSo h.marks k.marks

-- ---- what the member holds itself

-- its rows stay locked, if it puts no record, whatever log it is that stands beside them; and its numbers stay counted
pub record StillRests (before counter : ℕ) (s t : MarksState) : Type 0 where
  pub rises : before ≤ counter
  pub locked : (log : List ℕ) → LogLocked log [] s → LogLocked log [] t
  pub counted : AreCounted counter t

-- behind another event of it than its restart's
abbrev pub RestingStays : Type 0
RestingStays = (c d : Contents) (m n : Member) (u v : World) (f g : FatesState) (place : ℕ) (stepped : Stepped)
    → Steps m u f place stepped n v g → is_restart stepped ≡ false → has_failed stepped ≡ false → u.drive.contents ≡ Some c → v.drive.contents ≡ Some d → n.holds.marks.log.pending ≡ []
    → AreCounted u.facility.counter m.holds.marks → StillRests u.facility.counter v.facility.counter m.holds.marks n.holds.marks
