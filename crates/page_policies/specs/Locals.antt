-- All that a policy does by local moves, and what the locks of transactions, their refusals and their ends leave of pages.
use Rattle.std.specs.Prelude.{◌≡◌, ℕ, List}
use Rattle.ds_model.specs.declared.lock.Name.{Name}
use Rattle.ds_model.specs.declared.fate.Refusal.{Refusal}
use Rattle.lock_names.specs.declared.mode.Mode.{Mode}
use Rattle.lock_manager.specs.Managers.{claims_of}
use Rattle.member_trans.specs.declared.fate.Owner.{Owner}
use Rattle.member_marks.specs.State.{MarksState}
use Rattle.member_marks.specs.Claims.{offered, after_enter, after_release_of, after_end_of}
use Rattle.member_marks.specs.Local.{Local, moved, Reaches}
use Rattle.member_effects.specs.Kept.{Kept}
use Rattle.member_effects.specs.Changes.{with_marks}
use Rattle.page_protocol.specs.Moves.{World}
use Rattle.page_world.specs.Holdings.{Holdings}
use Rattle.page_intents.specs.Stands.{behind, Goes}
use Rattle.page_intents.specs.Frames.{Begins}
use Rattle.page_intents.specs.Owners.{LeavesPages}

-- a lock of a transaction that is entered, given up, or gone with its end; and what is offered to be refused
pub record TransLeavePages : Type 0 where
  pub enters : (s : MarksState) (slot : ℕ) (n : Name) (m : Mode) (event : ℕ) → LeavesPages s (after_enter s slot n m event)
  pub releases : (s : MarksState) (o : Owner) → LeavesPages s (after_release_of s o)
  pub ends : (s : MarksState) (o : Owner) → LeavesPages s (after_end_of s o)
  pub offers : (s : MarksState) (o : Owner) (r : Refusal) (place : ℕ) → LeavesPages s (offered s o r place)

-- the claims of the member itself stay in all this, and in all that a policy reaches by local moves
pub record OwnClaimsStay : Type 0 where
  pub enters : (s : MarksState) (slot : ℕ) (n : Name) (m : Mode) (event : ℕ) → claims_of (after_enter s slot n m event).locks 0 ≡ claims_of s.locks 0
  pub releases : (s : MarksState) (o : Owner) → claims_of (after_release_of s o).locks 0 ≡ claims_of s.locks 0
  pub ends : (s : MarksState) (o : Owner) → claims_of (after_end_of s o).locks 0 ≡ claims_of s.locks 0
  pub reaches : (s t : MarksState) → Reaches s t → claims_of t.locks 0 ≡ claims_of s.locks 0

-- any local move, and all that a policy reaches by some of them
abbrev pub LocalGoes : Type 0
LocalGoes = (w : World) (g : Holdings) (content : ℕ → ℕ → List ℕ) (forced : ℕ → ℕ) (k : Kept) (x : Local)
    → Begins w g content forced k → Goes w content forced (behind g g.facility k.marks.member (with_marks k (moved x k.marks))) k.marks (with_marks k (moved x k.marks))

abbrev pub ReachesGoes : Type 0
ReachesGoes = (w : World) (g : Holdings) (content : ℕ → ℕ → List ℕ) (forced : ℕ → ℕ) (k : Kept) (t : MarksState)
    → Begins w g content forced k → Reaches k.marks t → Goes w content forced (behind g g.facility k.marks.member (with_marks k t)) k.marks (with_marks k t)

-- local moves leave the log buffer as it is
abbrev pub LocalsLeaveLog : Type 0
LocalsLeaveLog = (s t : MarksState) → Reaches s t → t.log ≡ s.log
