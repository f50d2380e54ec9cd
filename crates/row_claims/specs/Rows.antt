-- The rows that a member's log has changed, and their locks.
use Rattle.std.specs.Prelude.{◌≡◌, ◌≢◌, ◌⊎◌, ℕ, ◌≤◌, ◌++◌, true, List, []}
use Rattle.ds_base.specs.declared.names.Sizes.{Sizes}
use Rattle.ds_model.specs.Rows.{Spot}
use Rattle.ds_model.specs.declared.log.LogRecord.{LogRecord}
use Rattle.log_rows.specs.Rows.{IsOpenIn, has_changed, is_closed, touches}
use Rattle.log_trans.specs.declared.opened.OpenTran.{OpenTran}
use Rattle.member_intents.specs.declared.intent.Intent.{Intent}
use Rattle.member_intents.specs.declared.outcome.Answered.{Answered}
use Rattle.member_intents.specs.declared.outcome.Sent.{Sent}
use Rattle.member_marks.specs.Local.{Reaches}
use Rattle.member_marks.specs.State.{MarksState}
use Rattle.member_effects.specs.Puts.{event_records}
use Rattle.member_resources.specs.Events.{Drive, Happens, World}
use Rattle.member_resources.specs.Held.{Held, IsNew, begun}
use Rattle.lock_world.specs.Books.{IsBook}
use Rattle.strict_locking.specs.Given.{SlotsStand}
use Rattle.strict_locking.specs.Rows.{HasLocked}
use Rattle.closing_law.specs.Closing.{ArePlain, Closes, IsUnfailed, LogIs}

-- where these records are on disk, and these are those of the log buffer
pub record RowsLocked (disk pend : List LogRecord) (s : MarksState) : Type 0 where
  pub closes : Closes disk pend s
  pub book : IsBook s.locks
  pub slots : SlotsStand s
  pub rows : (id : ℕ) (spot : Spot) → id ≢ 0 → has_changed (disk ++ pend) id spot ≡ true → (is_closed disk id ≡ true) ⊎ HasLocked s id spot

-- all that have changed rows are closed
abbrev pub AllClosed : List LogRecord → Type 0
AllClosed disk = (id : ℕ) (spot : Spot) → id ≢ 0 → has_changed disk id spot ≡ true → is_closed disk id ≡ true

abbrev pub RowsBegin : Type 0
RowsBegin = (disk : List LogRecord) (member : ℕ) (sizes : Sizes) (h : Held) → AllClosed disk → IsBook h.marks.locks → IsNew member sizes h → RowsLocked disk [] h.marks

abbrev pub RowsReach : Type 0
RowsReach = (disk pend : List LogRecord) (s t : MarksState) → Reaches s t → RowsLocked disk pend s → RowsLocked disk pend t

-- these new records were put behind those of the buffer, maybe none, and no Checkpoint is among them
pub record PutsPlain (pend new left : List LogRecord) : Type 0 where
  pub is : left ≡ pend ++ new
  pub plain : ArePlain new

-- So it is of what is on disk and in the buffer behind an event that puts these new records: they stand behind those of the buffer, or those of
-- the buffer are on disk now.
pub record StillLocked (base : List ℕ) (disk pend new : List LogRecord) (drive : Drive) (s : MarksState) : Type 0 where
  pub more : List LogRecord
  pub left : List LogRecord
  pub goes : ((more ≡ []) × PutsPlain pend new left) ⊎ ((more ≡ pend) × (left ≡ []))
  pub log : LogIs base drive s.member (disk ++ more)
  pub locked : RowsLocked (disk ++ more) left s

abbrev pub RowsStay : Type 0
RowsStay = (base : List ℕ) (disk pend : List LogRecord) (w v : World) (h k : Held) (i : Intent) (place : ℕ) (sent : Sent) (a : Answered)
    → (happens : Happens w h i place sent a v k) → IsUnfailed a → h.marks.log.stable ≤ w.facility.counter → LogIs base w.drive h.marks.member disk → RowsLocked disk pend h.marks
    → StillLocked base disk pend (event_records (begun happens.ready place).marks i happens.plan a) v.drive k.marks

-- a transaction that is open in the records on disk, behind which a front of those of the buffer may stand, has locked all rows that it has changed
abbrev pub RowsOpen : Type 0
RowsOpen = (disk front rest : List LogRecord) (s : MarksState) (t : OpenTran) → RowsLocked disk (front ++ rest) s → IsOpenIn (disk ++ front) t
    → (spot : Spot) → touches t spot ≡ true → HasLocked s t.id spot
