-- Refusals that a member's event allows or has made.
use Rattle.std.proofs.Common.{◌≡◌, ◌⊎◌, ℕ, Bool, true, false, ◌&&◌, List, get_or, Option, Some, None, refl, sym, subst}
use Rattle.std.specs.Prelude.{IfSome}
use Rattle.std.proofs.lemmas.Bool.{and_parts}
use Rattle.ds_model.specs.declared.lock.Name.{Name}
use Rattle.ds_model.specs.declared.fate.Refusal.{Refusal}
use Rattle.ds_model.specs.declared.fate.Refusal.TheVariants as refusal
use Rattle.lock_names.specs.declared.mode.Mode.{Mode}
use Rattle.lock_manager.specs.declared.claim.Ask.TheVariants as ask
use Rattle.lock_manager.specs.Managers.{ask_of}
use Rattle.member_trans.specs.declared.fate.Owner.{Owner}
use Rattle.member_trans.specs.declared.fate.Owner.TheVariants as owner
use Rattle.member_trans.specs.declared.fate.Offer.{Offer}
use Rattle.member_trans.specs.declared.fate.Refused.{Refused}
use Rattle.member_trans.specs.declared.fate.Stage.{Stage}
use Rattle.member_trans.specs.declared.fate.Stage.TheVariants as stage
use Rattle.member_trans.specs.Trans.{TransState, TranState, free_tran, is_forward, is_free}
use Rattle.member_marks.specs.State.{MarksState, slot_id, slot_tran}
use Rattle.member_marks.specs.Claims.{is_agent, is_for_agents, may_claim}

-- what is to be known of a transaction's number, of why it is refused, and of the place that is named
abbrev pub Claim : Type 1
Claim = ℕ → Refusal → ℕ → Type 0

-- it is known of the slot's transaction, which has begun
abbrev pub IsOf : Claim → List TranState → Owner → Refusal → ℕ → Type 0
IsOf K ts (owner.Slot slot) why named = (is_free (get_or ts slot free_tran).stage ≡ false) × K (get_or ts slot free_tran).number why named
IsOf K ts (owner.Rollback id) why named = ⊥

-- of any transaction, or of the slot's
abbrev pub IsOfAny : Claim → List TranState → Owner → Refusal → ℕ → Type 0
IsOfAny K ts o why named = ((number : ℕ) → K number why named) ⊎ IsOf K ts o why named

-- it is known where a refusal is allowed to an owner, and these are the transactions of the slots
abbrev pub IsAllowed : Claim → List TranState → Owner → Refusal → ℕ → Type 0
IsAllowed K ts o (refusal.Held n by) named = IsOfAny K ts o (refusal.Held n by) named
IsAllowed K ts o (refusal.Retained n by) named = IsOfAny K ts o (refusal.Retained n by) named
IsAllowed K ts o (refusal.Deadlock cycle) named = IsOf K ts o (refusal.Deadlock cycle) named
IsAllowed K ts o (refusal.SpaceFull table pages) named = (number : ℕ) → K number (refusal.SpaceFull table pages) named
IsAllowed K ts o (refusal.RecordsFull most) named = (number : ℕ) → K number (refusal.RecordsFull most) named
IsAllowed K ts o (refusal.LrsnEnd at) named = (number : ℕ) → K number (refusal.LrsnEnd at) named
IsAllowed K ts o refusal.Memory named = (number : ℕ) → K number refusal.Memory named
IsAllowed K ts o refusal.Aborted named = (number : ℕ) → K number refusal.Aborted named

abbrev pub IsOffered : Claim → List TranState → Option Offer → Type 0
IsOffered K ts None = Unit {0}
IsOffered K ts (Some it) = IsAllowed K ts it.owner it.refusal it.place

abbrev pub IsMade : Claim → Option Refused → Type 0
IsMade K r = IfSome r (λ it. K it.number it.refusal it.place)

-- it is known of the refusal that the event allows, and of the one that it has made, in the event of this place
abbrev pub Known : Claim → ℕ → TransState → Type 0
Known K place t = IsOffered K t.slots t.offer × IsMade K t.refused × (t.place ≡ place)

abbrev pub KnownIn : Claim → ℕ → MarksState → Type 0
KnownIn K place s = Known K place s.trans

-- it is known of the refusals that a trial at home may come to in the event of this place
pub record HomeKnown (K : Claim) (place : ℕ) (s : MarksState) : Type 0 where
  pub held : (slot : ℕ) (n : Name) (m : Mode) (by : ℕ) → may_claim s slot n ≡ true → ask_of s.locks slot n m ≡ ask.Conflict by → K (slot_tran s slot).number (refusal.Held n (slot_id s by)) place
  pub retained : (slot : ℕ) (n : Name) (m : Mode) (by : ℕ) → may_claim s slot n ≡ true → ask_of s.locks slot n m ≡ ask.Postponed by → K (slot_tran s slot).number (refusal.Retained n by) place
  pub memory : (number : ℕ) → K number refusal.Memory place
  pub aborted : (number : ℕ) → K number refusal.Aborted place

-- ---- who may claim has begun

pub begun_forward : (it : Stage) → is_forward it ≡ true → is_free it ≡ false
begun_forward stage.Free e = sym e
begun_forward stage.Forward e = refl
begun_forward stage.Drawn e = refl
begun_forward stage.Decided e = refl
begun_forward stage.Undoing e = refl
begun_forward stage.Postponed e = refl

pub claims_forward : (s : MarksState) (slot : ℕ) (n : Name) → may_claim s slot n ≡ true → is_forward (slot_tran s slot).stage ≡ true
claims_forward s slot n may =
    let parts = and_parts (is_agent s slot) (is_forward (slot_tran s slot).stage && is_for_agents n) may in
    (and_parts (is_forward (slot_tran s slot).stage) (is_for_agents n) parts.1).0

pub claims_begun : (s : MarksState) (slot : ℕ) (n : Name) → may_claim s slot n ≡ true → is_free (slot_tran s slot).stage ≡ false
claims_begun s slot n may = begun_forward (slot_tran s slot).stage (claims_forward s slot n may)

-- ---- nothing is refused yet, and nothing may be

abbrev pub Quiet : ℕ → TransState → Type 0
Quiet place t = (t.offer ≡ None) × (t.refused ≡ None) × (t.place ≡ place)

abbrev pub QuietIn : ℕ → MarksState → Type 0
QuietIn place s = Quiet place s.trans

pub unmade_known : (K : Claim) (place : ℕ) (t : TransState) → Quiet place t → IsMade K t.refused
unmade_known K place t quiet = subst (IsMade K) (sym quiet.1) tt

pub quiet_known : (K : Claim) (place : ℕ) (t : TransState) → Quiet place t → Known K place t
quiet_known K place t quiet = (subst (IsOffered K t.slots) (sym quiet.0) tt, unmade_known K place t quiet, quiet.2)
