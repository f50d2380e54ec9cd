-- That transactions which are over are closed in the log on disk.
use Rattle.std.specs.Prelude.{◌≡◌, ◌≢◌, ◌⊎◌, ℕ, ◌-◌, ◌<◌, ◌≤◌, ◌++◌, nat_lt, Bool, true, false, List, [], ◌∷◌, length, Some}
use Rattle.std.specs.List.{AllByRecursion}
use Rattle.ds_base.specs.declared.names.Sizes.{Sizes}
use Rattle.ds_disk.specs.Contents.{Contents, log_of}
use Rattle.ds_model.specs.RecordBytes.{log_bytes}
use Rattle.ds_model.specs.Rows.{Spot}
use Rattle.ds_model.specs.declared.log.Body.{Body}
use Rattle.ds_model.specs.declared.log.Body.TheVariants as body
use Rattle.ds_model.specs.declared.log.RowChange.{RowChange}
use Rattle.page_plans.specs.declared.action.Action.{Action}
use Rattle.ds_model.specs.declared.log.LogRecord.{LogRecord}
use Rattle.log_rows.specs.Rows.{has_changed, is_closed}
use Rattle.member_intents.specs.declared.intent.Frames.{Frames}
use Rattle.member_intents.specs.declared.intent.Intent.{Intent}
use Rattle.member_intents.specs.declared.intent.Intent.TheVariants as intent
use Rattle.member_intents.specs.declared.outcome.Answered.{Answered}
use Rattle.member_intents.specs.declared.outcome.Answered.TheVariants as answered
use Rattle.member_intents.specs.declared.outcome.Sent.{Sent}
use Rattle.member_trans.specs.declared.fate.Owner.{Owner}
use Rattle.member_trans.specs.Trans.{TransState, TranState, is_decided, is_drawn, is_empty, is_forward, is_over_at, is_undoing, tran_at}
use Rattle.member_marks.specs.Local.{Reaches}
use Rattle.member_marks.specs.State.{MarksState, slot_tran, tran_of}
use Rattle.member_needs.specs.declared.plans.Plan.{Plan}
use Rattle.member_needs.specs.declared.plans.Plan.TheVariants as plan
use Rattle.member_effects.specs.Puts.{event_records}
use Rattle.member_resources.specs.Events.{Drive, Happens, World}
use Rattle.member_resources.specs.Held.{Held, IsNew, begun}

-- ---- one transaction, where these records are on disk, those in the log buffer, and this is the last number on disk

-- its Ended record is on disk, or waits there with its number
abbrev pub HasEnd : List LogRecord → List LogRecord → ℕ → TranState → Type 0
HasEnd disk pend stable t = (is_closed disk t.first ≡ true) ⊎ ((is_closed pend t.first ≡ true) × (stable < t.ended))

-- One that goes forward, and has a name in the log, has changes that stand. One that is decided has its Commit record on disk; and one whose
-- changes are all taken back has its Ended record.
pub record TranStands (disk pend : List LogRecord) (stable : ℕ) (t : TranState) : Type 0 where
  pub changed : is_forward t.stage ≡ true → t.first ≢ 0 → is_empty t.changes ≡ false
  pub decided : is_decided t.stage ≡ true → t.first ≢ 0 → is_closed disk t.first ≡ true
  pub undone : is_undoing t.stage ≡ true → t.first ≢ 0 → is_empty t.changes ≡ true → HasEnd disk pend stable t

-- one that waits for its decision has its Commit record in the buffer
pub record Waits (pend : List LogRecord) (t : TranState) : Type 0 where
  pub drawn : is_drawn t.stage ≡ true
  pub closed : t.first ≢ 0 → is_closed pend t.first ≡ true

-- ---- all of a member

pub record AllStand (disk pend : List LogRecord) (stable : ℕ) (t : TransState) : Type 0 where
  pub slots : AllByRecursion (TranStands disk pend stable) t.slots
  pub rollbacks : AllByRecursion (TranStands disk pend stable) t.rollbacks
  pub commits : AllByRecursion (λ (slot : ℕ). Waits pend (tran_at t slot)) t.commits

-- where these records are on disk, and these are those of the log buffer
pub record Closes (disk pend : List LogRecord) (s : MarksState) : Type 0 where
  pub spelled : s.log.pending ≡ log_bytes pend
  pub all : AllStand disk pend s.log.stable s.trans

-- ---- so it is of a member that holds nothing, whatever is on disk; local moves change nothing of it

abbrev pub ClosesBegin : Type 0
ClosesBegin = (disk : List LogRecord) (member : ℕ) (sizes : Sizes) (h : Held) → IsNew member sizes h → Closes disk [] h.marks

abbrev pub ClosesReach : Type 0
ClosesReach = (disk pend : List LogRecord) (s t : MarksState) → Reaches s t → Closes disk pend s → Closes disk pend t

-- ---- nor do events, over a disk that tells what it holds

-- the log of the member has these records on disk, behind these bytes
pub record LogIs (base : List ℕ) (drive : Drive) (member : ℕ) (disk : List LogRecord) : Type 0 where
  pub contents : Contents
  pub told : drive.contents ≡ Some contents
  pub there : nat_lt (member - 1) (length contents.logs) ≡ true
  pub log : log_of contents.logs member ≡ base ++ log_bytes disk

-- the row that a record of this event has changed is that of the change which its intent has planned for the slot's transaction
pub record ChangedIn (i : Intent) (p : Plan) (t : MarksState) (id : ℕ) (spot : Spot) : Type 0 where
  pub slot : ℕ
  pub action : Action
  pub frames : Frames
  pub change : RowChange
  pub wanted : i ≡ intent.Change slot action frames
  pub planned : p ≡ plan.Row change
  pub row : (change.table, change.key) ≡ spot
  pub named : (slot_tran t slot).first ≡ id

-- a member that is up puts no Checkpoint
abbrev pub is_checkpoint : Body → Bool
is_checkpoint (body.RowChange c) = false
is_checkpoint (body.Compensation c undone) = false
is_checkpoint (body.System patches) = false
is_checkpoint body.Commit = false
is_checkpoint body.Ended = false
is_checkpoint (body.Checkpoint offset) = true
is_checkpoint body.RestartEnd = false

abbrev pub ArePlain : List LogRecord → Type 0
ArePlain records = AllByRecursion (λ (r : LogRecord). is_checkpoint r.body ≡ false) records

-- these new records were put behind those of the buffer, maybe none
pub record Puts (pend new left : List LogRecord) (Changes : ℕ → Spot → Type 0) : Type 0 where
  pub is : left ≡ pend ++ new
  pub plain : ArePlain new
  pub rows : (id : ℕ) (spot : Spot) → has_changed new id spot ≡ true → Changes id spot

-- So it is of what an event leaves that puts these new records: they stand behind those of the buffer, or those of the buffer are on disk now.
pub record StillCloses (base : List ℕ) (disk pend new : List LogRecord) (Changes : ℕ → Spot → Type 0) (drive : Drive) (s : MarksState) : Type 0 where
  pub more : List LogRecord
  pub left : List LogRecord
  pub goes : ((more ≡ []) × Puts pend new left Changes) ⊎ ((more ≡ pend) × (left ≡ []))
  pub log : LogIs base drive s.member (disk ++ more)
  pub closes : Closes (disk ++ more) left s

-- no call of the disk has failed
abbrev pub IsUnfailed : Answered → Type 0
IsUnfailed answered.None = Unit {0}
IsUnfailed (answered.Reply reply) = Unit {0}
IsUnfailed answered.Done = Unit {0}
IsUnfailed answered.Failed = ⊥

abbrev pub ClosesStay : Type 0
ClosesStay = (base : List ℕ) (disk pend : List LogRecord) (w v : World) (h k : Held) (i : Intent) (place : ℕ) (sent : Sent) (a : Answered)
    → (happens : Happens w h i place sent a v k) → IsUnfailed a → h.marks.log.stable ≤ w.facility.counter → LogIs base w.drive h.marks.member disk → Closes disk pend h.marks
    → StillCloses base disk pend (event_records (begun happens.ready place).marks i happens.plan a) (ChangedIn i happens.plan happens.after.marks) v.drive k.marks

-- ---- an owner whose transaction is over, and has changed a row, is closed on disk

abbrev pub ClosesTell : Type 0
ClosesTell = (disk pend : List LogRecord) (s : MarksState) (o : Owner) → Closes disk pend s → is_over_at (tran_of s o) s.log.stable ≡ true → (tran_of s o).first ≢ 0
    → is_closed disk (tran_of s o).first ≡ true
