-- That rows stay locked as long as their transactions aren't over.
use Rattle.std.specs.Prelude.{◌≡◌, ◌≢◌, ℕ, false, IfSome}
use Rattle.ds_model.specs.Rows.{Spot}
use Rattle.page_plans.specs.declared.action.Action.{Action}
use Rattle.member_intents.specs.declared.intent.Frames.{Frames}
use Rattle.member_intents.specs.declared.intent.Intent.{Intent}
use Rattle.member_intents.specs.declared.intent.Intent.TheVariants as intent
use Rattle.member_intents.specs.declared.outcome.Answered.{Answered}
use Rattle.member_intents.specs.declared.outcome.Sent.{Sent}
use Rattle.member_marks.specs.Local.{Reaches}
use Rattle.member_marks.specs.State.{MarksState, slot_tran}
use Rattle.marks_law.specs.Slots.{SlotsStand}
use Rattle.marks_law.specs.Given.{Held}
use Rattle.marks_law.specs.Given.{Happens, World}
use Rattle.lock_world.specs.Books.{IsBook}
use Rattle.strict_locking.specs.Rows.{HasLocked, is_over, row_for}

-- each row that a transaction has locked stays locked by it; and the lock manager still stands
pub record KeepsAll (s t : MarksState) : Type 0 where
  pub book : IsBook t.locks
  pub rows : (id : ℕ) (spot : Spot) → id ≢ 0 → HasLocked s id spot → HasLocked t id spot

-- the same of transactions that aren't over
pub record KeepsOpen (s t : MarksState) : Type 0 where
  pub book : IsBook t.locks
  pub rows : (id : ℕ) (spot : Spot) → id ≢ 0 → (l : HasLocked s id spot) → is_over s l.by ≡ false → HasLocked t id spot

-- whatever was wanted, it was lawful, went out and was settled, and then the policy made local moves
abbrev pub EventsKeep : Type 0
EventsKeep = (w v : World) (h k : Held) (i : Intent) (place : ℕ) (sent : Sent) (a : Answered) → IsBook h.marks.locks → Happens w h i place sent a v k → KeepsOpen h.marks k.marks

-- what a policy reaches by local moves, as it does also where the member is told of its restart or its rebuild
abbrev pub MovesKeep : Type 0
MovesKeep = (s t : MarksState) → IsBook s.locks → Reaches s t → KeepsAll s t

-- where pages are changed for a row, the transaction has locked it, by the name that the log has for it then
abbrev pub ChangesLock : Type 0
ChangesLock = (w v : World) (h k : Held) (slot : ℕ) (a : Action) (frames : Frames) (place : ℕ) (sent : Sent) (answered : Answered) → IsBook h.marks.locks → SlotsStand h.marks
    → (happens : Happens w h (intent.Change slot a frames) place sent answered v k) → (id : ℕ) → id ≢ 0 → (slot_tran happens.after.marks slot).first ≡ id → IfSome (row_for a) (HasLocked k.marks id)
