-- The locks of a group beside a sound world of locks: what holds after every event of every run.
use Rattle.std.specs.Prelude.{◌≡◌, ◌⊎◌, ℕ, zero, suc, ◌+◌, ◌≤◌, true, false, List, [], length, Option, Some, None, IfSome, is_some, slice_get}
use Rattle.lock_names.specs.declared.mode.Mode.{Mode}
use Rattle.list_structure.specs.declared.standing.MemberStatus.TheVariants.{Up, Restarting}
use Rattle.list_structure.specs.Standings.{status_of, is_live}
use Rattle.lock_manager.specs.Managers.{Book}
use Rattle.facility.specs.States.{Held}
use Rattle.restart_marks.specs.State.{RestartState}
use Rattle.group_member.specs.declared.restarting.Restarting.{Restarting as RestartHeld}
use Rattle.group_member.specs.Members.{Member}
use Rattle.group_member.specs.Resting.{NoneInSlots, RestsIdle}
use Rattle.group_core.specs.Given.{CrewState}
use Rattle.lock_protocol.specs.Machine.{World}
use Rattle.lock_protocol.specs.Sound.{Sound}
use Rattle.lock_world.specs.Books.{IsBook}
use Rattle.lock_world.specs.Tied.{Claims, Tied}
use Rattle.lock_world.specs.Views.{entry_in, claim_in}
use Rattle.marks_law.specs.Free.{FreeHoldNothing}
use Rattle.marks_law.specs.Slots.{SlotsStand}
use Rattle.lock_members.specs.Known.{known_of}
use Rattle.lock_restarts.specs.Courses.{HasHandedOver, IsInOrder}

-- members are numbered from 1 on
abbrev pub known_by : Option Member → ℕ → ℕ → Option Mode
known_by None o c = None
known_by (Some m) o c = known_of m o c

abbrev pub known : List Member → Claims
known members zero o c = None
known members (suc at) o c = known_by (slice_get members at) o c

-- ---- a member

abbrev pub ClaimsNothing : Book → Type 0
ClaimsNothing b = (o c : ℕ) → claim_in b o c ≡ None

-- The restart in hand isn't over. What it has taken out of itself is the member's rollbacks': then it has no open transaction left, and
-- needs no page. As long as it has, the member's lock manager has nothing. Nothing waits in the member's own log buffer.
pub record RestartStands (k : ℕ) (m : Member) (s : RestartState) : Type 0 where
  pub member : s.member ≡ k
  pub on : s.is_up ≡ false
  pub order : IsInOrder s
  pub own : (c : ℕ) → claim_in m.holds.marks.locks 0 c ≡ None
  pub left : ClaimsNothing m.holds.marks.locks ⊎ HasHandedOver s
  pub idle : m.holds.marks.log.pending ≡ []

abbrev pub RestartInHand : ℕ → Member → Option RestartHeld → Type 0
RestartInHand k m None = Unit {0}
RestartInHand k m (Some q) = RestartStands k m q.resources.marks

-- The member of this number. It has a restart as long as its standing says so. One that isn't live knows of no claims, its slots are free,
-- and nothing waits in its log buffer.
pub record MemberStands (f : Held) (k : ℕ) (m : Member) : Type 0 where
  pub id : m.id ≡ k
  pub member : m.holds.marks.member ≡ k
  pub size : m.holds.marks.locks.entries ≡ length f.locks.entries
  pub book : IsBook m.holds.marks.locks
  pub slots : SlotsStand m.holds.marks
  pub free : FreeHoldNothing m.holds.marks
  pub up : status_of f.lists.statuses k ≡ Up → m.restart ≡ None
  pub restarts : status_of f.lists.statuses k ≡ Restarting → is_some m.restart ≡ true
  pub rests : RestsIdle m
  pub restart : RestartInHand k m m.restart
  pub down : is_live (status_of f.lists.statuses k) ≡ false → (m.restart ≡ None) × ClaimsNothing m.holds.marks.locks × NoneInSlots m.holds.marks × (m.holds.marks.log.pending ≡ [])

-- ---- the invariant

pub record LocksTied (s : CrewState) (w : World) : Type 0 where
  pub sound : Sound (entry_in s.facility.locks) w
  pub tied : Tied w s.facility.locks s.facility.lists (known s.members)
  pub count : length s.members ≡ s.facility.lists.members
  pub few : s.facility.lists.members ≤ 32
  pub agents : s.sizes.agents ≤ 16
  pub entries : length s.facility.locks.entries ≡ s.sizes.locks
  pub stands : (at : ℕ) → IfSome (slice_get s.members at) (MemberStands s.facility (at + 1))

-- ---- so it tells of the log buffers

-- nothing waits in the own log buffer of a member whose restart is in hand
abbrev pub WaitsNone : Member → Type 0
WaitsNone m = IfSome m.restart (λ q. m.holds.marks.log.pending ≡ [])

abbrev pub RestingsWaitNone : Type 0
RestingsWaitNone = (s : CrewState) (w : World) → LocksTied s w → (at : ℕ) → IfSome (slice_get s.members at) WaitsNone
