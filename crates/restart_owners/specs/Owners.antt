-- Who owns a page, beside the world of locks and the facility.
use Rattle.std.specs.Prelude.{◌≡◌, ◌≢◌, ◌⊎◌, ℕ, [], ◌∷◌, Option, Some}
use Rattle.ds_base.specs.Ids.{IsMember}
use Rattle.ds_base.specs.declared.names.PageId.{PageId}
use Rattle.lock_names.specs.Given.name_variants as name
use Rattle.lock_names.specs.declared.mode.Mode.TheVariants.{X}
use Rattle.facility.specs.States.{Held as Facility, MemberFailed}
use Rattle.lock_protocol.specs.Machine.{World as LockWorld}
use Rattle.lock_protocol.specs.Moves.{Fail}
use Rattle.lock_protocol.specs.Sound.{Sound}
use Rattle.lock_world.specs.Numbers.{number}
use Rattle.lock_world.specs.Tied.{Claims, Moved, Tied}
use Rattle.lock_world.specs.Views.{entry_in}
use Rattle.page_world.specs.Holdings.{Holdings}
use Rattle.page_world.specs.Numbers.{page_at, page_number}
use Rattle.page_restarts.specs.Beside.{SameOthers}
use Rattle.restart_marks.specs.State.{IsFresh, RestartState}
use Rattle.retained_pages.specs.Retained.{Retains}

-- by page, who owns it: the member claims the page itself in the world of locks, in X, or the facility has retained its lock
abbrev pub OwnersStand : LockWorld → Facility → (ℕ → Option ℕ) → Type 0
OwnersStand l f owner = (n k : ℕ) → owner n ≡ Some k → (l.claims k 0 (number (name.Page (page_at n))) ≡ Some X) ⊎ Retains f k (page_at n)

-- ---- a member that has failed: the locks of its pages are retained

abbrev pub OwnsFailed : Facility → (ℕ → Option ℕ) → ℕ → Type 0
OwnsFailed f owner m = (n : ℕ) → owner n ≡ Some m → Retains f m (page_at n)

pub record HasFailed (l : LockWorld) (f : Facility) (owner : ℕ → Option ℕ) (m : ℕ) : Type 0 where
  pub owners : OwnersStand l f owner
  pub own : OwnsFailed f owner m

-- so it is behind its failure, whatever its standing
abbrev pub OwnersFail : Type 0
OwnersFail = (l : LockWorld) (f v : Facility) (held left : Claims) (owner : ℕ → Option ℕ) (m : ℕ)
    → Sound (entry_in f.locks) l → Tied l f.locks f.lists held → IsMember m → MemberFailed f m v → (moved : Moved l (Fail m ∷ []) f.locks v.locks v.lists left) → OwnersStand l f owner → HasFailed moved.world v owner m

-- ---- a member whose restart is in hand: it owns the page whose lock the restart has, and else only pages whose locks are retained

pub record OwnsRestarting (f : Facility) (owner : ℕ → Option ℕ) (s : RestartState) : Type 0 where
  pub claimed : (p : PageId) → s.claim ≡ Some p → owner (page_number p) ≡ Some s.member
  pub retained : (n : ℕ) → owner n ≡ Some s.member → (s.claim ≡ Some (page_at n)) ⊎ Retains f s.member (page_at n)

abbrev pub RestartsBegin : Type 0
RestartsBegin = (f : Facility) (owner : ℕ → Option ℕ) (m : ℕ) (s : RestartState) → IsFresh m s → OwnsFailed f owner m → OwnsRestarting f owner s

-- an event of another member, which leaves its retained locks, leaves that
abbrev pub OthersOwn : Type 0
OthersOwn = (g left : Holdings) (forced force : ℕ → ℕ) (f v : Facility) (m : ℕ) (s : RestartState)
    → SameOthers g left forced force m → s.member ≢ m → ((p : PageId) → Retains f s.member p → Retains v s.member p) → OwnsRestarting f g.owner s → OwnsRestarting v left.owner s
