-- The claims of a member as its lock manager has them: what its answers say of them, and what its calls make of them.
use Rattle.std.specs.Prelude.{◌≡◌, ◌≢◌, ℕ, ◌+◌, ◌≤◌, ◌<◌, ◌==◌, Bool, true, false, ◌&&◌, ◌||◌, List, [], ◌∷◌, length, slice_set, Option, Some, None, is_none, if◌then◌else◌}
use Rattle.ds_model.specs.declared.lock.Name.{Name}
use Rattle.lock_names.specs.declared.mode.Mode.{Mode}
use Rattle.lock_names.specs.declared.mode.Interest.{Interest}
use Rattle.lock_names.specs.Modes.{class_of}
use Rattle.lock_names.specs.Entries.{entry_number}
use Rattle.lock_manager.specs.declared.claim.Claim.{Claim}
use Rattle.lock_manager.specs.declared.claim.Rollback.{Rollback}
use Rattle.lock_manager.specs.declared.claim.Ask.TheVariants as ask
use Rattle.lock_manager.specs.declared.claim.LockAnswer.TheVariants as answer
use Rattle.lock_manager.specs.Buckets.{AreDistinct}
use Rattle.lock_manager.specs.Claims.{is_in_way, joined, without}
use Rattle.lock_manager.specs.Holders.{is_held}
use Rattle.lock_manager.specs.Managers.{Book, IsGiven, slots, claims_of, held_by, answer_of, ask_of, given, with_claims, after_release, release_told, after_page_release, page_told, place_in, is_postponed, dropped, after_postpone}
use Rattle.lock_protocol.specs.Machine.{backs, both_allowed, Covers}
use Rattle.lock_world.specs.Numbers.{number, name_at}
use Rattle.lock_world.specs.Views.{rollback_owner, claim_in}

-- ---- how a lock manager stands

abbrev pub has_id : List Rollback → ℕ → Bool
has_id [] id = false
has_id (r ∷ rs) id = (r.id == id) || has_id rs id

-- no two rollbacks have one number
abbrev pub AreApart : List Rollback → Type 0
AreApart [] = Unit {0}
AreApart (r ∷ rs) = (has_id rs r.id ≡ false) × AreApart rs

-- each slot and each rollback has its claims, no two on one name
pub record IsBook (b : Book) : Type 0 where
  pub owners : length b.holders ≡ slots b + length b.rollbacks
  pub few : b.agents ≤ 16
  pub once : (i : ℕ) → AreDistinct (claims_of b i)
  pub apart : AreApart b.rollbacks

-- ---- its answers

-- where another member is told that nothing is in the way, no claim is
abbrev pub AnswersTell : Type 0
AnswersTell = (b : Book) (n : Name) (m : Mode) → answer_of b n m ≡ answer.Clean → (o : ℕ) → is_in_way (claim_in b o (number n)) m ≡ false

-- where an owner is told that the member's own claims cover the mode that it needs, one of them does, if they don't conflict, and no
-- other owner is in the way
pub record Covered (b : Book) (slot : ℕ) (n : Name) (m : Mode) : Type 0 where
  pub covers : (q : ℕ) × Covers (claim_in b q (number n)) (joined (held_by b slot n) m)
  pub free : (q : ℕ) → q ≢ slot → is_in_way (claim_in b q (number n)) (joined (held_by b slot n) m) ≡ false

abbrev pub HomeTells : Type 0
HomeTells = (b : Book) (slot : ℕ) (n : Name) (m : Mode)
    → IsBook b → slot < slots b → ((o q c : ℕ) → o ≢ q → both_allowed (claim_in b o c) (claim_in b q c) ≡ true) → ask_of b slot n m ≡ ask.Local → Covered b slot n m

-- where it is told so, or to ask the facility, no other owner is in the way
abbrev pub FreeAtHome : Type 0
FreeAtHome = (b : Book) (slot : ℕ) (n : Name) (m : Mode) → slot < slots b → ask_of b slot n m ≡ ask.Local → (q : ℕ) → q ≢ slot → is_in_way (claim_in b q (number n)) (joined (held_by b slot n) m) ≡ false

abbrev pub FacilityTells : Type 0
FacilityTells = (b : Book) (slot : ℕ) (n : Name) (m more : Mode)
    → slot < slots b → ask_of b slot n m ≡ ask.Facility more → (q : ℕ) → q ≢ slot → is_in_way (claim_in b q (number n)) (joined (held_by b slot n) m) ≡ false

-- what a slot has is its claim, and a name that nobody holds nobody claims
abbrev pub SlotHas : Type 0
SlotHas = (b : Book) (slot : ℕ) (n : Name) → IsBook b → slot < slots b → claim_in b slot (number n) ≡ held_by b slot n

abbrev pub NobodyHolds : Type 0
NobodyHolds = (b : Book) (n : Name) → is_held b.holders n ≡ false → (o : ℕ) → claim_in b o (number n) ≡ None

-- ---- a claim that is entered

-- the owner has the name in this mode, and all else is as before
pub record HasEntered (b after : Book) (owner : ℕ) (n : Name) (mode : Mode) : Type 0 where
  pub own : (o c : ℕ) → claim_in after o c ≡ (if (o == owner) && (c == number n) then Some mode else claim_in b o c)
  pub stands : IsBook after

abbrev pub GivenEnters : Type 0
GivenEnters = (b : Book) (slot : ℕ) (n : Name) (m : Mode) → IsBook b → slot < slots b → HasEntered b (given b slot n m) slot n (joined (held_by b slot n) m)

abbrev pub PageEnters : Type 0
PageEnters = (b after : Book) (n : Name) (m : Mode) → IsBook b → IsGiven b 0 n m after → HasEntered b after 0 n (joined (held_by b 0 n) m)

-- ---- claims that are given up

-- what an owner had is gone, or stays as it was
pub record HasLeft (b after : Book) (owner : ℕ) : Type 0 where
  pub others : (o c : ℕ) → o ≢ owner → claim_in after o c ≡ claim_in b o c
  pub own : (c : ℕ) → claim_in after owner c ≡ (if is_none (claim_in after owner c) then None else claim_in b owner c)
  pub stands : IsBook after

-- the name is free, and the interest that is kept stands for each claim that is left
pub record IsFreed (after : Book) (n : Name) (interest : Interest) : Type 0 where
  pub free : (o : ℕ) → claim_in after o (number n) ≡ None
  pub keeps : (o c : ℕ) (x : Mode) → entry_number (name_at c) after.entries ≡ entry_number n after.entries → claim_in after o c ≡ Some x → backs (class_of x) interest ≡ true

abbrev pub ReleaseFrees : Type 0
ReleaseFrees = (b : Book) (slot : ℕ) (n : Name) (keeps : Interest)
    → IsBook b → slot < slots b → release_told b slot ≡ Some (n, keeps) → HasLeft b (after_release b slot) slot × IsFreed (after_release b slot) n keeps

-- no owner but the member has a claim on the page
abbrev pub PageFrees : Type 0
PageFrees = (b : Book) (n : Name)
    → IsBook b → ((o : ℕ) → o ≢ 0 → claim_in b o (number n) ≡ None) → HasLeft b (after_page_release b n) 0 × IsFreed (after_page_release b n) n (page_told b n)

-- all claims of a slot go
abbrev pub EndLeaves : Type 0
EndLeaves = (b : Book) (slot : ℕ) → IsBook b → slot < slots b → HasLeft b (with_claims b slot []) slot × ((c : ℕ) → claim_in (with_claims b slot []) slot c ≡ None)

-- ---- rollbacks

-- the rollback of this number, at this place, gives up a name
abbrev pub RollbackFrees : Type 0
RollbackFrees = (b : Book) (id k : ℕ) (n : Name) (keeps : Interest)
    → IsBook b → place_in b.rollbacks 0 id ≡ Some k → release_told b (slots b + k) ≡ Some (n, keeps)
    → HasLeft b (after_release b (slots b + k)) (rollback_owner id) × IsFreed (after_release b (slots b + k)) n keeps

-- it is over, and what is left of it goes
abbrev pub RollbackEnds : Type 0
RollbackEnds = (b : Book) (id k : ℕ)
    → IsBook b → place_in b.rollbacks 0 id ≡ Some k → HasLeft b (dropped b (Some k)) (rollback_owner id) × ((c : ℕ) → claim_in (dropped b (Some k)) (rollback_owner id) c ≡ None)

-- it waits for another member, which changes no claim
abbrev pub RollbackWaits : Type 0
RollbackWaits = (b : Book) (id k by : ℕ)
    → IsBook b → place_in b.rollbacks 0 id ≡ Some k → ((o c : ℕ) → claim_in (record b { rollbacks = slice_set b.rollbacks k (record { id = id; by = by }) }) o c ≡ claim_in b o c) × IsBook (record b { rollbacks = slice_set b.rollbacks k (record { id = id; by = by }) })

-- the claims of a slot are those of a rollback now
pub record HasHandedOn (b after : Book) (slot id : ℕ) : Type 0 where
  pub new : (c : ℕ) → claim_in b (rollback_owner id) c ≡ None
  pub given : (c : ℕ) → claim_in after (rollback_owner id) c ≡ claim_in b slot c
  pub gone : (c : ℕ) → claim_in after slot c ≡ None
  pub rest : (o c : ℕ) → o ≢ slot → o ≢ rollback_owner id → claim_in after o c ≡ claim_in b o c
  pub stands : IsBook after

abbrev pub PostponedHandsOn : Type 0
PostponedHandsOn = (b : Book) (slot id by : ℕ) → IsBook b → slot < slots b → is_postponed b id ≡ false → HasHandedOn b (after_postpone b slot id by) slot id
