-- An agent without a transaction has no claims: what a slot has are the claims of its transaction.
use Rattle.std.specs.Prelude.{◌≡◌, ℕ, ◌+◌, ◌≤◌, true, List, [], length}
use Rattle.ds_base.specs.declared.names.Sizes.{Sizes}
use Rattle.ds_model.specs.declared.log.RowChange.{RowChange}
use Rattle.lock_manager.specs.Managers.{claims_of}
use Rattle.member_intents.specs.declared.intent.Intent.{Intent}
use Rattle.member_intents.specs.declared.outcome.Answered.{Answered}
use Rattle.member_intents.specs.declared.outcome.Sent.{Sent}
use Rattle.member_trans.specs.declared.fate.Change.{Change}
use Rattle.member_trans.specs.Trans.{is_free}
use Rattle.member_marks.specs.State.{MarksState, agents_of, slot_tran}
use Rattle.member_marks.specs.Claims.{is_agent}
use Rattle.member_marks.specs.Local.{Reaches}
use Rattle.member_marks.specs.Rollbacks.{after_adopt}
use Rattle.member_resources.specs.Held.{Held, IsNew}
use Rattle.member_resources.specs.Events.{World, Happens}

-- each slot has its list of claims, and where an agent has no transaction it is empty
pub record FreeHoldNothing (s : MarksState) : Type 0 where
  pub lists : agents_of s + 1 ≤ length s.locks.holders
  pub none : (slot : ℕ) → is_agent s slot ≡ true → is_free (slot_tran s slot).stage ≡ true → claims_of s.locks slot ≡ []

-- ---- so it is of a member that holds nothing, and no event of it changes that

abbrev pub FreeBegin : Type 0
FreeBegin = (member : ℕ) (sizes : Sizes) (h : Held) → IsNew member sizes h → FreeHoldNothing h.marks

abbrev pub FreeStay : Type 0
FreeStay = (w v : World) (h k : Held) (i : Intent) (place : ℕ) (sent : Sent) (a : Answered) → Happens w h i place sent a v k → FreeHoldNothing h.marks → FreeHoldNothing k.marks

-- nor do local moves, and rollbacks that are adopted
abbrev pub FreeReach : Type 0
FreeReach = (s t : MarksState) → Reaches s t → FreeHoldNothing s → FreeHoldNothing t

abbrev pub FreeAdopt : Type 0
FreeAdopt = (s : MarksState) (id by : ℕ) (changes : List Change) (undone : List RowChange) → FreeHoldNothing s → FreeHoldNothing (after_adopt s id by changes undone)
