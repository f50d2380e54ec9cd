-- Transactions that stay with their owners, each by the number of its first record in the log.
use Rattle.std.specs.Prelude.{◌≡◌, ◌⊎◌, ℕ, Bool, true, false}
use Rattle.member_intents.specs.declared.intent.Intent.{Intent}
use Rattle.member_intents.specs.declared.outcome.Answered.{Answered}
use Rattle.member_intents.specs.declared.outcome.Sent.{Sent}
use Rattle.member_effects.specs.Given.{Plan}
use Rattle.member_effects.specs.declared.told.Told.{Told}
use Rattle.member_trans.specs.declared.fate.Stage.{Stage}
use Rattle.member_trans.specs.declared.fate.Stage.TheVariants as stage
use Rattle.member_trans.specs.declared.fate.Owner.TheVariants as owner
use Rattle.member_trans.specs.Trans.{TransState, TranState, is_undoing, tran_at, tran_of}
use Rattle.member_marks.specs.State.{MarksState}
use Rattle.member_marks.specs.Local.{Local, Claim, Begin, Refuse, Abort, RefuseForMemory, Place, Pin, Unpin, Postpone, WaitFor, moved}
use Rattle.member_resources.specs.Held.{Held, begun}
use Rattle.member_resources.specs.Events.{World, Runs}
use Rattle.member_resources.specs.Prepared.{Reserves}
use Rattle.marks_law.specs.Claims.{changes_claims}

-- the slot has a transaction: it isn't free, and its transaction isn't a rollback
abbrev pub has_tran : Stage → Bool
has_tran stage.Free = false
has_tran stage.Forward = true
has_tran stage.Drawn = true
has_tran stage.Decided = true
has_tran stage.Undoing = true
has_tran stage.Postponed = false

-- its first record is the one that it was, if there was any
pub record GoesOn (t u : TranState) : Type 0 where
  pub there : has_tran u.stage ≡ true
  pub named : (u.first ≡ t.first) ⊎ (t.first ≡ 0)

-- each slot keeps its transaction, and each rollback stays, which is undoing
pub record TransStay (t u : TransState) : Type 0 where
  pub slots : (slot : ℕ) → has_tran (tran_at t slot).stage ≡ true → GoesOn (tran_at t slot) (tran_at u slot)
  pub rollbacks : (id : ℕ) → is_undoing (tran_of t (owner.Rollback id)).stage ≡ true → is_undoing (tran_of u (owner.Rollback id)).stage ≡ true

-- so do the claims
pub record MarksStay (s t : MarksState) : Type 0 where
  pub locks : t.locks ≡ s.locks
  pub trans : TransStay s.trans t.trans

-- ---- so it is in each event in which no lock is taken or given up, and no transaction ends, but for the local moves of the policy
abbrev pub EventsStay : Type 0
EventsStay = (w v : World) (h ready k : Held) (i : Intent) (sent : Sent) (p : Plan) (place : ℕ) (a : Answered) (said : Told)
    → changes_claims i ≡ false → Reserves i h ready → Runs w (begun ready place) i sent p place a said v k → MarksStay h.marks k.marks

-- transactions stay in each local move too that postpones no rollback
abbrev pub postpones : Local → Bool
postpones (Claim slot n m has_memory spare) = false
postpones (Begin slot n has_memory lock_room room) = false
postpones (Refuse slot) = false
postpones (Abort slot) = false
postpones (RefuseForMemory slot) = false
postpones (Place p) = false
postpones (Pin at) = false
postpones (Unpin at) = false
postpones (Postpone slot) = true
postpones (WaitFor id) = false

abbrev pub MovesStay : Type 0
MovesStay = (s : MarksState) (x : Local) → postpones x ≡ false → TransStay s.trans (moved x s).trans
