-- A member whose restart is in hand, beside the claims of all members and a world of locks.
use Rattle.std.specs.Prelude.{◌≡◌, ◌≢◌, ◌⊎◌, ℕ, ◌≤◌, ◌==◌, Bool, false, List, Option, Some, None, if◌then◌else◌}
use Rattle.ds_base.specs.declared.names.PageId.{PageId}
use Rattle.ds_base.specs.Ids.{IsMember}
use Rattle.ds_model.specs.declared.lock.Name.TheVariants as name
use Rattle.lock_names.specs.declared.mode.Mode.{Mode}
use Rattle.lock_names.specs.declared.mode.Mode.TheVariants.{X}
use Rattle.list_structure.specs.declared.standing.MemberStatus.TheVariants.{Restarting}
use Rattle.list_structure.specs.Standings.{status_of}
use Rattle.facility.specs.States.{Held}
use Rattle.restart_records.specs.Trans.{page_undone}
use Rattle.restart_marks.specs.Moves.{Reaches}
use Rattle.restart_marks.specs.State.{RestartState}
use Rattle.lock_protocol.specs.Machine.{World}
use Rattle.lock_protocol.specs.Moves.{Move}
use Rattle.lock_protocol.specs.Own.{AreOf}
use Rattle.lock_world.specs.Numbers.{name_at, number}
use Rattle.lock_world.specs.Tied.{Claims, Moved, is_own}

-- the claims of the member's lock manager, by owner and name: those of the rollbacks that it has taken over
abbrev pub OwnClaims : Type 0
OwnClaims = ℕ → ℕ → Option Mode

abbrev pub page_claim : Option PageId → ℕ → Option Mode
page_claim None c = None
page_claim (Some p) c = if c == number (name.Page p) then Some X else None

abbrev pub or_else : Option Mode → Option Mode → Option Mode
or_else None x = x
or_else (Some m) x = Some m

-- with the page whose lock the restart has, which is the member's own claim
abbrev pub known_with : OwnClaims → Option PageId → ℕ → ℕ → Option Mode
known_with own claim o c = or_else (own o c) (if o == 0 then page_claim claim c else None)

-- the claims of the member are those that it knows
abbrev pub Knows : Claims → OwnClaims → RestartState → Type 0
Knows held own s = (o c : ℕ) → held s.member o c ≡ known_with own s.claim o c

-- so they are behind an event of its restart, which changes those of no other member, and none of its lock manager
pub record Leads (held left : Claims) (own : OwnClaims) (s t : RestartState) : Type 0 where
  pub others : (k o c : ℕ) → k ≢ s.member → left k o c ≡ held k o c
  pub knows : (o c : ℕ) → left s.member o c ≡ known_with own t.claim o c

-- It restarts in a group of this facility. Its lock manager has no page; and where it has anything, the restart has handed over what it has left
-- open, and has no page lock and no change to take back.
pub record IsRestarting (f : Held) (own : OwnClaims) (s : RestartState) : Type 0 where
  pub member : IsMember s.member
  pub among : s.member ≤ f.lists.members
  pub few : f.lists.members ≤ 32
  pub restarts : status_of f.lists.statuses s.member ≡ Restarting
  pub pages : (c : ℕ) → own 0 c ≡ None
  pub left : ((o c : ℕ) → own o c ≡ None) ⊎ ((s.claim ≡ None) × ((id : ℕ) → page_undone s.trans id ≡ None))

-- the claims of the member's transactions and rollbacks stay, but for those on the names that are gone
abbrev pub Spares : World → World → ℕ → (ℕ → Bool) → Type 0
Spares w v m gone = (o c : ℕ) → o ≢ 0 → is_own (name_at c) ≡ false → gone c ≡ false → v.claims m o c ≡ w.claims m o c

abbrev pub none_gone : ℕ → Bool
none_gone c = false

-- moves of the member lead to a world that stands beside what an event of its restart has left
pub record Goes (w : World) (f g : Held) (left : Claims) (m : ℕ) (gone : ℕ → Bool) : Type 0 where
  pub moves : List Move
  pub own : AreOf m moves
  pub moved : Moved w moves f.locks g.locks g.lists left
  pub spares : Spares w moved.world m gone

-- ---- what the restart's local moves leave as it is

pub record SameClaim (s t : RestartState) : Type 0 where
  pub claim : t.claim ≡ s.claim
  pub member : t.member ≡ s.member
  pub up : t.is_up ≡ s.is_up

abbrev pub LocalsStay : Type 0
LocalsStay = (s t : RestartState) → Reaches s t → SameClaim s t
