-- The claims of a group in one list, and when they are sound.
use Rattle.std.specs.Prelude.{◌≡◌, ◌⊎◌, ℕ, ◌+◌, true, false, List, [], ◌∷◌, ◌++◌, map, flat_map, Contains, Option, Some, None}
use Rattle.std.specs.List.{range_with_len}
use Rattle.ds_base.specs.declared.names.PageId.{PageId}
use Rattle.ds_model.specs.declared.lock.Name.{Name}
use Rattle.ds_model.specs.declared.lock.Name.TheVariants as name
use Rattle.lock_names.specs.declared.mode.Mode.{Mode}
use Rattle.lock_names.specs.declared.mode.Mode.TheVariants.{X}
use Rattle.lock_names.specs.Modes.{are_compatible, class_of, is_recorded, join_of}
use Rattle.list_structure.specs.Standings.{is_live, status_of}
use Rattle.lock_manager.specs.declared.claim.Claim.{Claim}
use Rattle.lock_manager.specs.declared.claim.Rollback.{Rollback}
use Rattle.lock_manager.specs.Managers.{Book}
use Rattle.lock_protocol.specs.Machine.{World, backs}
use Rattle.lock_protocol.specs.Words.{AreOthers}
use Rattle.lock_structure.specs.declared.chain.Record.{Record}
use Rattle.lock_structure.specs.Locks.{interest_of, place_of, record_of}
use Rattle.lock_world.specs.Views.{claims_by, rollback_owner}
use Rattle.rested_logs.specs.Given.{CrewState, LocksTied, Member, Restarting}

-- ---- the claims

-- A lock that an owner of a member has. Owner 0 is the member itself, which locks pages and page sets; those up to 16 are its agents by their slots,
-- each for its transaction; and those above are rollbacks that were postponed.
pub record LockClaim : Type 0 where
  pub member : ℕ
  pub owner : ℕ
  pub name : Name
  pub mode : Mode

-- the slots of a lock manager, and the rollbacks that were postponed
abbrev pub owners_in : Book → List ℕ
owners_in book = range_with_len 0 (book.agents + 1) ++ map (λ (r : Rollback). rollback_owner r.id) book.rollbacks

abbrev pub as_claim : ℕ → ℕ → Claim → LockClaim
as_claim member owner c = record { member = member; owner = owner; name = c.name; mode = c.mode }

-- those that a lock manager has of one of its owners, and of all
abbrev pub owner_claims : ℕ → Book → ℕ → List LockClaim
owner_claims member book owner = map (as_claim member owner) (claims_by book owner)

abbrev pub book_claims : ℕ → Book → List LockClaim
book_claims member book = flat_map (owner_claims member book) (owners_in book)

-- the page that a restart has locked
abbrev pub page_claims : ℕ → Option PageId → List LockClaim
page_claims member None = []
page_claims member (Some page) = record { member = member; owner = 0; name = name.Page page; mode = X } ∷ []

abbrev pub restart_claims : ℕ → Option Restarting → List LockClaim
restart_claims member None = []
restart_claims member (Some restart) = page_claims member restart.resources.marks.claim

abbrev pub member_claims : Member → List LockClaim
member_claims m = book_claims m.id m.holds.marks.locks ++ restart_claims m.id m.restart

-- all that the members of a group have
abbrev pub claims_in : CrewState → List LockClaim
claims_in s = flat_map member_claims s.members

-- ---- when they are sound

-- two claims of different owners on one name, the mode of one of which isn't given while another owner has the other
pub record Conflict (a b : LockClaim) : Type 0 where
  pub owners : AreOthers a.member a.owner b.member b.owner
  pub same : a.name ≡ b.name
  pub modes : are_compatible a.mode b.mode ≡ false

-- the lock is recorded in a mode that covers this one
abbrev pub Records : Option Record → Mode → Type 0
Records None mode = ⊥
Records (Some lock) mode = join_of lock.mode mode ≡ lock.mode

-- so that it outlived a failure of its member
abbrev pub Retains : Option Record → Mode → Type 0
Retains None mode = ⊥
Retains (Some lock) mode = (lock.retained ≡ true) × (join_of lock.mode mode ≡ lock.mode)

-- its member is live, and has interest in the entry of its name, of the class of its mode or of class Exclusive
pub record HasInterest (s : CrewState) (a : LockClaim) : Type 0 where
  pub live : is_live (status_of s.facility.lists.statuses a.member) ≡ true
  pub interest : backs (class_of a.mode) (interest_of s.facility.locks a.member (place_of s.facility.locks a.name)) ≡ true

-- the facility has that interest for it, or a retained record that covers it
abbrev pub IsCovered : CrewState → LockClaim → Type 0
IsCovered s a = HasInterest s a ⊎ Retains (record_of s.facility.locks a.member a.name) a.mode

-- No two claims conflict. Each is covered; and each that is recorded has a record of its member that covers it, which a failure will retain.
pub record ClaimsAreSound (s : CrewState) : Type 0 where
  pub apart : (a b : LockClaim) → Contains (claims_in s) a → Contains (claims_in s) b → Conflict a b → ⊥
  pub covered : (a : LockClaim) → Contains (claims_in s) a → IsCovered s a
  pub recorded : (a : LockClaim) → Contains (claims_in s) a → is_recorded a.mode ≡ true → Records (record_of s.facility.locks a.member a.name) a.mode

-- so they are in a group beside a sound world of locks
abbrev pub TiedAreSound : Type 0
TiedAreSound = (s : CrewState) (w : World) → LocksTied s w → ClaimsAreSound s
