-- The pages of a group beside a good world of pages: what holds after every event of every run, while the group runs.
use Rattle.std.specs.Prelude.{◌≡◌, ◌⊎◌, ℕ, ◌+◌, ◌≤◌, true, false, List, Option, Some, IfSome, slice_get}
use Rattle.list_structure.specs.declared.standing.MemberStatus.TheVariants.{Restarting, Up}
use Rattle.list_structure.specs.Standings.{is_live, status_of}
use Rattle.facility.specs.States.{Held as Facility}
use Rattle.page_owners.specs.Given.{Drive, Group, HasCast, Held, IsUp, Member, RestartHeld, Shows, kept_of}
use Rattle.restart_owners.specs.Given.{IsRestarting, RestartHolds, RestartState, reading}
use Rattle.group_locks.specs.Given.{CrewState}
use Rattle.page_protocol.specs.Moves.{World}
use Rattle.page_world.specs.Holdings.{Holdings, no_copy}
use Rattle.page_owners.specs.Owners.{OwnInX}
use Rattle.page_owners.specs.Resting.{IsBare}
use Rattle.restart_owners.specs.Listing.{IsListing}
use Rattle.restart_owners.specs.Owners.{OwnsFailed, OwnsRestarting}
use Rattle.restart_owners.specs.Undrawn.{IsUndrawn}

-- ---- a member

-- it is up, with what it casts out, and claims its pages in X
pub record UpPages (g : Holdings) (forced : ℕ → ℕ) (h : Held) : Type 0 where
  pub up : IsUp g forced (kept_of h)
  pub cast : HasCast g h.marks.member h.cast h.buffer
  pub in_x : OwnInX h.marks

-- its restart reads the log yet, and has nothing of it but its reader
pub record IsUnread (g : Holdings) (s : RestartState) : Type 0 where
  pub level : g.written s.member ≡ g.stable s.member
  pub unread : s.own.is_read ≡ false
  pub rest : s ≡ reading s.member s.own

-- its restart is in hand, whether it reads the log yet or has read it: it owns the page whose lock the restart has, and pages whose locks are
-- retained, of which the restart knows what it has listed; and it draws no number before all of these are recovered
pub record RestartPages (g : Holdings) (forced : ℕ → ℕ) (h : RestartHolds) : Type 0 where
  pub restarts : IsRestarting g forced h
  pub stage : IsUnread g h.marks ⊎ (h.marks.own.is_read ≡ true)
  pub owns : OwnsRestarting g.facility g.owner h.marks
  pub lists : IsListing g.facility h.marks
  pub undrawn : IsUndrawn g h.marks

-- it has failed: the group holds of it what is on disk, and its page locks are retained
pub record DownPages (g : Holdings) (k : ℕ) : Type 0 where
  pub level : g.written k ≡ g.stable k
  pub copies : (n : ℕ) → g.copies k n ≡ no_copy
  pub owns : OwnsFailed g.facility g.owner k

-- by its standing: this is what the group holds of the member of this number, which holds this, beside its restart
pub record HoldsPages (g : Holdings) (forced : ℕ → ℕ) (k : ℕ) (h : Held) (r : Option RestartHeld) : Type 0 where
  pub up : status_of g.facility.lists.statuses k ≡ Up → UpPages g forced h
  pub restarts : status_of g.facility.lists.statuses k ≡ Restarting → IfSome r (λ (q : RestartHeld). RestartPages g forced q.resources) × IsBare h × HasCast g k h.cast h.buffer
  pub down : is_live (status_of g.facility.lists.statuses k) ≡ false → DownPages g k × IsBare h × HasCast g k h.cast h.buffer

abbrev pub MemberPages : Holdings → (ℕ → ℕ) → ℕ → Member → Type 0
MemberPages g forced k m = HoldsPages g forced k m.holds m.restart

-- ---- the group

-- A good world stands beside the facility, the disk and what these members hold, of which each owner of a page is one.
pub record CrewPages (d : Drive) (f : Facility) (ms : List Member) (w : World) (g : Holdings) (content : ℕ → ℕ → List ℕ) (forced : ℕ → ℕ) : Type 0 where
  pub group : Group w g content forced
  pub facility : g.facility ≡ f
  pub drive : Shows d g.disk
  pub owned : (n k : ℕ) → g.owner n ≡ Some k → (1 ≤ k) × (k ≤ g.facility.lists.members)
  pub members : (at : ℕ) → IfSome (slice_get ms at) (MemberPages g forced (at + 1))

-- the invariant, beside that of locks, while no group restart is in hand
pub record PagesTied (d : Drive) (s : CrewState) (w : World) : Type 0 where
  pub holdings : Holdings
  pub versions : ℕ → ℕ → List ℕ
  pub forced : ℕ → ℕ
  pub pages : CrewPages d s.facility s.members w holdings versions forced
