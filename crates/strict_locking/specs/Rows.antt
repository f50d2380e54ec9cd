-- The rows that a transaction of a member has locked, to change them.
use Rattle.std.specs.Prelude.{◌≡◌, ℕ, Bool, true, Option, Some, None}
use Rattle.ds_model.specs.Rows.{Spot}
use Rattle.lock_names.specs.declared.mode.Mode.TheVariants.{IX, X}
use Rattle.page_plans.specs.declared.action.Action.{Action}
use Rattle.page_plans.specs.declared.action.Action.TheVariants as action
use Rattle.member_trans.specs.declared.fate.Owner.{Owner}
use Rattle.member_trans.specs.declared.fate.Owner.TheVariants as owner
use Rattle.member_trans.specs.Trans.{is_over_at, is_undoing}
use Rattle.member_marks.specs.Claims.{is_agent}
use Rattle.member_marks.specs.State.{MarksState, slot_tran, tran_of}
use Rattle.marks_law.specs.Transactions.{has_tran}
use Rattle.lock_protocol.specs.Machine.{Covers}
use Rattle.lock_world.specs.Rollbacks.{row_of, space_of}
use Rattle.lock_world.specs.Views.{claim_in, rollback_owner}

-- the number of the owner among those of claims
abbrev pub number_of : Owner → ℕ
number_of (owner.Slot slot) = slot
number_of (owner.Rollback id) = rollback_owner id

-- the owner has a transaction: a slot one that isn't a rollback, and a rollback one that is undoing
abbrev pub IsTaken : MarksState → Owner → Type 0
IsTaken s (owner.Slot slot) = (is_agent s slot ≡ true) × (has_tran (slot_tran s slot).stage ≡ true)
IsTaken s (owner.Rollback id) = is_undoing (tran_of s (owner.Rollback id)).stage ≡ true

-- the number by which the log names its transaction, which is that of its first record; 0 where there is none yet
abbrev pub name_of : MarksState → Owner → ℕ
name_of s (owner.Slot slot) = (slot_tran s slot).first
name_of s (owner.Rollback id) = id

-- the transaction that the log names so has the row in X, and its table space in IX, SIX or X
pub record HasLocked (s : MarksState) (id : ℕ) (spot : Spot) : Type 0 where
  pub by : Owner
  pub taken : IsTaken s by
  pub named : name_of s by ≡ id
  pub space : Covers (claim_in s.locks (number_of by) (space_of spot)) IX
  pub row : Covers (claim_in s.locks (number_of by) (row_of spot)) X

-- the owner's transaction is decided, or taken back with its last record on disk
abbrev pub is_over : MarksState → Owner → Bool
is_over s o = is_over_at (tran_of s o) s.log.stable

-- the row for which pages are changed by the action, if it is for one
abbrev pub row_for : Action → Option Spot
row_for (action.RowChange table key place value) = Some (table, key)
row_for (action.GiveSlot table key leaf) = Some (table, key)
row_for (action.FormatIndex table) = None
row_for (action.FormatHeap table) = None
row_for (action.Split table left) = None
row_for (action.BranchEntry table branch low child) = None
