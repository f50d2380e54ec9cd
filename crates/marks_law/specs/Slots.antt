-- Which slots of a member have transactions: those of its agents, and never slot 0, which is the member's own.
use Rattle.std.specs.Prelude.{◌≡◌, ℕ, ◌+◌, ◌==◌, ◌||◌, Bool, true, false, List, [], ◌∷◌, length}
use Rattle.ds_base.specs.declared.names.Sizes.{Sizes}
use Rattle.ds_model.specs.declared.log.RowChange.{RowChange}
use Rattle.member_intents.specs.declared.intent.Intent.{Intent}
use Rattle.member_intents.specs.declared.outcome.Answered.{Answered}
use Rattle.member_intents.specs.declared.outcome.Sent.{Sent}
use Rattle.member_trans.specs.declared.fate.Change.{Change}
use Rattle.member_trans.specs.Trans.{TransState, tran_at, is_free}
use Rattle.member_marks.specs.State.{MarksState, slot_tran}
use Rattle.member_marks.specs.Claims.{is_agent}
use Rattle.member_marks.specs.Local.{Reaches}
use Rattle.member_marks.specs.Rollbacks.{after_adopt}
use Rattle.member_resources.specs.Held.{Held, IsNew}
use Rattle.member_resources.specs.Events.{World, Happens}

-- whether slot 0 is one of these
abbrev pub has_own : List ℕ → Bool
has_own [] = false
has_own (slot ∷ slots) = (slot == 0) || has_own slots

-- slot 0 is free, and isn't about to be decided, where there are so many agents
pub record AreSlots (t : TransState) (agents : ℕ) : Type 0 where
  pub count : length t.slots ≡ agents + 1
  pub own : is_free (tran_at t 0).stage ≡ true
  pub commits : has_own t.commits ≡ false

abbrev pub SlotsStand : MarksState → Type 0
SlotsStand s = AreSlots s.trans s.locks.agents

-- a slot with a transaction is an agent's
abbrev pub SlotsTell : Type 0
SlotsTell = (s : MarksState) (slot : ℕ) → SlotsStand s → is_free (slot_tran s slot).stage ≡ false → is_agent s slot ≡ true

-- ---- so it is of a member that holds nothing, and no event of it changes that

abbrev pub SlotsBegin : Type 0
SlotsBegin = (member : ℕ) (sizes : Sizes) (h : Held) → IsNew member sizes h → SlotsStand h.marks

abbrev pub SlotsStay : Type 0
SlotsStay = (w v : World) (h k : Held) (i : Intent) (place : ℕ) (sent : Sent) (a : Answered) → Happens w h i place sent a v k → SlotsStand h.marks → SlotsStand k.marks

-- nor do local moves, and rollbacks that are adopted
abbrev pub SlotsReach : Type 0
SlotsReach = (s t : MarksState) → Reaches s t → SlotsStand s → SlotsStand t

abbrev pub SlotsAdopt : Type 0
SlotsAdopt = (s : MarksState) (id by : ℕ) (changes : List Change) (undone : List RowChange) → SlotsStand s → SlotsStand (after_adopt s id by changes undone)
