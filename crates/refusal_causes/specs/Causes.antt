-- What it is for the cause of a refusal to hold.
use Rattle.std.specs.Prelude.{◌≡◌, ◌⊎◌, ℕ, ◌<◌, ◌≤◌, true, false, List, slice_get, Option, Some, None}
use Rattle.ds_base.specs.declared.names.PageId.{PageId}
use Rattle.ds_base.specs.declared.names.TranId.{TranId}
use Rattle.ds_base.specs.Pages.{same_page, heap_page}
use Rattle.ds_model.specs.declared.lock.Name.{Name}
use Rattle.ds_model.specs.declared.fate.Refusal.{Refusal}
use Rattle.ds_model.specs.declared.fate.Refusal.TheVariants as refusal
use Rattle.lock_names.specs.declared.mode.Mode.{Mode}
use Rattle.lock_structure.specs.Locks.{Locks, is_full, keeps_out}
use Rattle.cache_structure.specs.Directory.{bit}
use Rattle.list_structure.specs.declared.query.Cell.TheVariants.{Answered}
use Rattle.list_structure.specs.declared.query.CellAnswer.{CellAnswer}
use Rattle.list_structure.specs.declared.query.CellAnswer.TheVariants as answer
use Rattle.list_structure.specs.declared.wait.Wait.{Wait}
use Rattle.list_structure.specs.Askers.{slot_of}
use Rattle.list_structure.specs.Cells.{cells_by}
use Rattle.list_structure.specs.States.{ListsState}
use Rattle.facility.specs.Counting.{limit}
use Rattle.facility.specs.LockCommands.{is_about}
use Rattle.facility.specs.States.{Held}
use Rattle.lock_manager.specs.Claims.{is_covered, is_in_way, joined}
use Rattle.lock_manager.specs.Managers.{held_by, slots, waited_for}
use Rattle.deadlock_cycle.specs.Cycles.{IsCycle}
use Rattle.page_plans.specs.declared.action.Action.TheVariants as action
use Rattle.page_plans.specs.declared.action.Look.TheVariants as look
use Rattle.page_plans.specs.Looks.{look_of}
use Rattle.member_trans.specs.Trans.{is_forward}
use Rattle.member_marks.specs.State.{MarksState, slot_id, slot_tran}
use Rattle.member_marks.specs.Claims.{has_page}
use Rattle.member_marks.specs.Frames.{frame_in}
use Rattle.member_resources.specs.Held as member

-- ---- locks

-- by a claim on the name a transaction of the member's slots is in the way of this mode
pub record HasClaim (s : MarksState) (n : Name) (wanted : Mode) (by : TranId) : Type 0 where
  pub slot : ℕ
  pub is_slot : slot < slots s.locks
  pub its : by ≡ slot_id s slot
  pub in_way : is_in_way (held_by s.locks slot n) wanted ≡ true

-- so is a postponed rollback, which waits for the restart of the member `by`
pub record HasPostponed (s : MarksState) (n : Name) (wanted : Mode) (by : ℕ) : Type 0 where
  pub place : ℕ
  pub is_rollback : slots s.locks ≤ place
  pub waits : by ≡ waited_for s.locks place
  pub in_way : is_in_way (held_by s.locks place n) wanted ≡ true

-- the record of the name that this failed member left is in the way of a mode that another one wanted
pub record IsRetained (w : Locks) (asker : ℕ) (n : Name) (by : ℕ) : Type 0 where
  pub wanted : Mode
  pub keeps : keeps_out w asker n wanted by ≡ true

-- a recorded mode of a table space or row was wanted, of which the member has no record, and as many records stand as there is room for
pub record HasNoRoom (w : Locks) (asker most : ℕ) : Type 0 where
  pub name : Name
  pub wanted : Mode
  pub full : is_full w asker name wanted ≡ true
  pub is_most : most ≡ w.book.records

-- among the answers to the queries of one of the member's slots stands this one, about the name, which was given by this event
pub record IsTold (lists : ListsState) (asker : ℕ) (n : Name) (said : CellAnswer) (event : ℕ) : Type 0 where
  pub slot : ℕ
  pub at : ℕ
  pub wanted : Mode
  pub asked : Name
  pub asked_mode : Mode
  pub version : ℕ
  pub stands : slice_get (cells_by lists.cells (slot_of asker slot)) at ≡ Some (Answered asked asked_mode said version event)
  pub about : is_about n wanted asked asked_mode ≡ true

-- ---- waits, space, numbers

-- these transactions wait each for the next, and the last for the first, which has this number, and none a higher one
pub record IsDeadlock (waits : List Wait) (number : ℕ) (cycle : List TranId) : Type 0 where
  pub tran : TranId
  pub its : tran.number ≡ number
  pub is_cycle : IsCycle waits tran cycle

-- The member has the header page of the table's heap, in X, filled and valid, and that says that the heap has so many pages, all that it
-- may have, and no slot is left.
pub record IsHeapFull (w : Held) (h : member.Held) (table pages : ℕ) : Type 0 where
  pub at : ℕ
  pub page : PageId
  pub bytes : List ℕ
  pub placed : (frame_in h.marks.heads at).page ≡ Some page
  pub header : same_page page (heap_page table 0) ≡ true
  pub claimed : has_page h.marks page ≡ true
  pub filled : (frame_in h.marks.heads at).filled ≡ true
  pub valid : bit w.directory h.marks.member at ≡ true
  pub bytes_are : slice_get h.pages at ≡ Some bytes
  pub full : look_of (action.GiveSlot table 0 0) h.limit 0 None bytes ≡ look.Full pages

-- ---- all causes

-- The transaction of this number goes forward in a slot. It tries the lock in a mode, and by their claims others are in the way, which say so, of
-- that mode joined with its own.
pub record IsBlocked (s : MarksState) (number : ℕ) (n : Name) (Blocks : Mode → Type 0) : Type 0 where
  pub slot : ℕ
  pub mode : Mode
  pub its : (slot_tran s slot).number ≡ number
  pub goes : is_forward (slot_tran s slot).stage ≡ true
  pub uncovered : is_covered (held_by s.locks slot n) mode ≡ false
  pub blocks : Blocks (joined (held_by s.locks slot n) mode)

-- whether this was so at home, in one of the states that the member goes through in the event
abbrev pub AtHome : (MarksState → Type 0) → (MarksState → Type 0) → Type 0
AtHome During Stands = (s : MarksState) × During s × Stands s

-- The cause for which the transaction of this number is refused holds in an event of a member, which holds this before it, at this place of the
-- journal; `named` is the place that is told. It is that place, but for an answer that was read: it names the event in which it was given.
abbrev pub CauseHolds : Held → member.Held → (MarksState → Type 0) → ℕ → ℕ → Refusal → ℕ → Type 0
CauseHolds w h During place number (refusal.Held n by) named =
    ((named ≡ place) × AtHome During (λ s. IsBlocked s number n (λ mode. HasClaim s n mode by))) ⊎ IsTold w.lists h.marks.member n (answer.Conflict by) named
CauseHolds w h During place number (refusal.Retained n by) named =
    ((named ≡ place) × (IsRetained w.locks h.marks.member n by ⊎ AtHome During (λ s. IsBlocked s number n (λ mode. HasPostponed s n mode by))))
    ⊎ IsTold w.lists h.marks.member n (answer.Postponed by) named
CauseHolds w h During place number (refusal.Deadlock cycle) named = (named ≡ place) × IsDeadlock w.lists.waits number cycle
CauseHolds w h During place number (refusal.SpaceFull table pages) named = (named ≡ place) × IsHeapFull w h table pages
CauseHolds w h During place number (refusal.RecordsFull most) named = (named ≡ place) × HasNoRoom w.locks h.marks.member most
CauseHolds w h During place number (refusal.LrsnEnd at) named = (named ≡ place) × (at ≡ w.counter) × (limit ≤ at)
CauseHolds w h During place number refusal.Memory named = named ≡ place
CauseHolds w h During place number refusal.Aborted named = named ≡ place
