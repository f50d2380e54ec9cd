-- What the log of a restart leaves open, as it hands over, and wherever it stops.
use Rattle.std.specs.Prelude.{◌≡◌, ◌⊎◌, ℕ, ◌^◌, ◌<◌, ◌≤◌, ◌==◌, ◌&&◌, ◌||◌, Bool, true, false, List, [], ◌∷◌, ◌++◌, length, take}
use Rattle.std.specs.List.{AllByRecursion}
use Rattle.ds_model.specs.Rows.{Spot}
use Rattle.ds_model.specs.declared.log.LogRecord.{LogRecord}
use Rattle.log_appends.specs.Appends.{AreLastFrom}
use Rattle.log_rows.specs.Rows.{touches}
use Rattle.log_trans.specs.declared.opened.OpenTran.{OpenTran}
use Rattle.log_trans.specs.Courses.{open_trans}
use Rattle.restart_records.specs.declared.trans.RestartStage.{RestartStage}
use Rattle.restart_records.specs.declared.trans.RestartStage.TheVariants as stage
use Rattle.restart_records.specs.declared.trans.RestartTran.{RestartTran}
use Rattle.restart_records.specs.Trans.{opened_among}
use Rattle.restart_marks.specs.State.{RestartState}
use Rattle.member_intents.specs.declared.outcome.Answered.TheVariants as answered
use Rattle.restart_marks.specs.declared.intent.RestartSent.{RestartSent}
use Rattle.restart_resources.specs.Events.{Happens, World}
use Rattle.restart_resources.specs.Held.{Held}
use Rattle.restart_closing.specs.Closing.{HasLog, IsClosedIn, LeavesOpen, RestartCloses}

-- ---- one that is over is closed in the log

abbrev pub OverAreClosed : Type 0
OverAreClosed = (log rest : List ℕ) (pend : List LogRecord) (s : RestartState)
    → RestartCloses log rest pend s → AllByRecursion (λ (x : RestartTran). x.stage ≡ stage.Over → IsClosedIn log x.tran.id) s.trans.list

-- ---- each is over where none is counted as left

abbrev pub NoneIsLeft : Type 0
NoneIsLeft = (log rest : List ℕ) (pend : List LogRecord) (s : RestartState)
    → RestartCloses log rest pend s → length s.trans.list < 2 ^ 64 → s.trans.left ≡ 0 → AllByRecursion (λ (x : RestartTran). x.stage ≡ stage.Over) s.trans.list

-- and a log of fewer than 2^64 bytes leaves so few open
abbrev pub LogsLeaveFew : Type 0
LogsLeaveFew = (log : List ℕ) → length log < 2 ^ 64 → (start : ℕ) (records : List LogRecord) → AreLastFrom log start records → length (open_trans records) < 2 ^ 64

-- and by no number above those by which its records name their transactions
abbrev pub LogsLeaveBelow : Type 0
LogsLeaveBelow = (c : ℕ) (records : List LogRecord) → AllByRecursion (λ (r : LogRecord). r.tran ≤ c) records → AllByRecursion (λ (t : OpenTran). t.id ≤ c) (open_trans records)

-- ---- what is handed over is all that the log leaves open, where no record waits

abbrev pub HandsAll : Type 0
HandsAll = (log rest : List ℕ) (s : RestartState) → s.own.is_read ≡ true → RestartCloses log rest [] s → LeavesOpen log (opened_among s.trans.list)

-- ---- where it stops

abbrev pub is_left : RestartStage → Bool
is_left stage.Open = true
is_left stage.Ended = true
is_left stage.Over = false

-- one of these isn't over, is the transaction of this number, and has changed the row
abbrev pub has_left : List RestartTran → ℕ → Spot → Bool
has_left [] id s = false
has_left (x ∷ xs) id s = (is_left x.stage && ((x.tran.id == id) && touches x.tran s)) || has_left xs id s

-- the rows of the transaction are those of one that isn't over
abbrev pub IsOfLeft : List RestartTran → OpenTran → Type 0
IsOfLeft list t = (s : Spot) → touches t s ≡ true → has_left list t.id s ≡ true

-- so it is of what the log leaves open, behind whose whole records so many bytes of those that wait stand, or the rest
abbrev pub StopsOpen : Type 0
StopsOpen = (log rest : List ℕ) (pend : List LogRecord) (s : RestartState) (n start : ℕ) (records : List LogRecord)
    → s.own.is_read ≡ true → RestartCloses log rest pend s → AreLastFrom (log ++ take n s.log.pending) start records → AllByRecursion (IsOfLeft s.trans.list) (open_trans records)

abbrev pub RestsOpen : Type 0
RestsOpen = (log rest : List ℕ) (pend : List LogRecord) (s : RestartState) (start : ℕ) (records : List LogRecord)
    → s.own.is_read ≡ true → RestartCloses log rest pend s → AreLastFrom (log ++ rest) start records → AllByRecursion (IsOfLeft s.trans.list) (open_trans records)

-- ---- such bytes are on disk behind an event whose call of the disk has failed

abbrev pub FailuresLeave : Type 0
FailuresLeave = (log rest : List ℕ) (pend : List LogRecord) (u v : World) (h k : Held) (x : RestartSent)
    → Happens u h x answered.Failed v k → HasLog u.drive h.marks.member (log ++ rest) → RestartCloses log rest pend h.marks
    → HasLog v.drive h.marks.member (log ++ rest) ⊎ ((n : ℕ) × HasLog v.drive h.marks.member (log ++ take n h.marks.log.pending))
