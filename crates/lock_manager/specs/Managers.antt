-- The lock manager: what stands in it, and what its answers are.
use Rattle.std.specs.Prelude.{◌≡◌, ℕ, ◌+◌, ◌-◌, Bool, ◌||◌, ◌==◌, if◌then◌else◌, Option, Some, None, is_some, List, [], ◌∷◌, ◌++◌, length, slice_set, slice_index_or, remove, replicate, nat_lt}
use Rattle.ds_model.specs.declared.lock.Name.{Name}
use Rattle.lock_names.specs.declared.mode.Mode.{Mode}
use Rattle.lock_names.specs.declared.mode.Interest.{Interest}
use Rattle.lock_names.specs.Entries.{entry_number}
use Rattle.lock_manager.specs.declared.claim.Claim.{Claim}
use Rattle.lock_manager.specs.declared.claim.Rollback.{Rollback}
use Rattle.lock_manager.specs.declared.claim.Ask.{Ask}
use Rattle.lock_manager.specs.declared.claim.Ask.TheVariants as ask
use Rattle.lock_manager.specs.declared.claim.LockAnswer.{LockAnswer}
use Rattle.lock_manager.specs.declared.claim.LockAnswer.TheVariants as answer
use Rattle.record_area.specs.Areas.{Room}
use Rattle.lock_manager.specs.Claims.{mode_in, without, joined, is_covered, entered}
use Rattle.lock_manager.specs.Holders.{first_in_way, mode_of_all, kept, first_freed, left_after, told, total}

pub record Book : Type 0 where
  pub holders : List (List Claim)  -- the claims of each owner: of the agents by their slots, from 0 on, then of the postponed rollbacks
  pub rollbacks : List Rollback  -- these rollbacks, in the order in which they were postponed
  pub agents : ℕ  -- the highest slot
  pub entries : ℕ  -- the size of the lock table
  pub pages : ℕ  -- room for claims of slot 0
  pub spare : ℕ  -- room for more claims of the other owners
  pub room : ℕ  -- room for more postponed rollbacks

-- how many slots there are
abbrev pub slots : Book → ℕ
slots b = b.agents + 1

abbrev pub claims_of : Book → ℕ → List Claim
claims_of b owner = slice_index_or b.holders owner []

-- the mode in which the owner itself holds the name
abbrev pub held_by : Book → ℕ → Name → Option Mode
held_by b owner n = mode_in (claims_of b owner) n

-- the mode in which the member holds the name: the join of all present claims
abbrev pub held_by_member : Book → Name → Option Mode
held_by_member b n = mode_of_all None b.holders n

abbrev pub no_rollback : Rollback
no_rollback = record { id = 0; by = 1 }

-- the member that the rollback waits for whose claims stand at this place
abbrev pub waited_for : Book → ℕ → ℕ
waited_for b k = (slice_index_or b.rollbacks (k - slots b) no_rollback).by

-- ---- asking

abbrev pub ask_among : Book → Name → Mode → Option ℕ → Ask
ask_among b n m None = if is_covered (held_by_member b n) m then ask.Local else ask.Facility m
ask_among b n m (Some k) = if nat_lt k (slots b) then ask.Conflict k else ask.Postponed (waited_for b k)

-- what an agent that needs the name in this mode is told: where it holds a mode already, it needs the join
abbrev pub ask_of : Book → ℕ → Name → Mode → Ask
ask_of b owner n m =
    if is_covered (held_by b owner n) m then ask.Have
    else ask_among b n (joined (held_by b owner n) m) (first_in_way b.holders 0 (Some owner) n (joined (held_by b owner n) m))

abbrev pub answer_among : Book → Option ℕ → LockAnswer
answer_among b None = answer.Clean
answer_among b (Some k) = if nat_lt k (slots b) then answer.Conflict k else answer.Postponed (waited_for b k)

-- what another member that needs the name in this mode is told
abbrev pub answer_of : Book → Name → Mode → LockAnswer
answer_of b n m = answer_among b (first_in_way b.holders 0 None n m)

-- ---- entering a claim

-- the owner holds the name in the join of what it held and this mode, and all else is as before
pub record IsGiven (b : Book) (owner : ℕ) (n : Name) (m : Mode) (after : Book) : Type 0 where
  pub mode : held_by after owner n ≡ Some (joined (held_by b owner n) m)
  pub others : without (claims_of after owner) n ≡ without (claims_of b owner) n
  pub rest : after ≡ record b { holders = slice_set b.holders owner (claims_of after owner); spare = after.spare }
  pub spare : after.spare + (if (owner == 0) || is_some (held_by b owner n) then 0 else 1) ≡ b.spare

-- what is left of the room for claims where the owner gets one: none is needed for a name that it holds, and slot 0 has its own
abbrev pub spare_after : Book → ℕ → Name → ℕ
spare_after b owner n = if (owner == 0) || is_some (held_by b owner n) then b.spare else b.spare - 1

-- an owner but slot 0 has the claim, before its others where the name is new to it
abbrev pub given : Book → ℕ → Name → Mode → Book
given b owner n m = record b { holders = slice_set b.holders owner (entered (claims_of b owner) n (joined (held_by b owner n) m)); spare = spare_after b owner n }

-- ---- giving up claims

-- the room that slot 0 leaves is for its own claims alone
abbrev pub with_claims : Book → ℕ → List Claim → Book
with_claims b owner cs = record b {
  holders = slice_set b.holders owner cs;
  spare = if owner == 0 then b.spare else b.spare + length (claims_of b owner) - length cs;
}

abbrev pub after_release : Book → ℕ → Book
after_release b owner = with_claims b owner (left_after b.holders owner (claims_of b owner))

abbrev pub release_told : Book → ℕ → Option (Name × Interest)
release_told b owner = told b.entries (after_release b owner).holders (first_freed b.holders owner (claims_of b owner))

abbrev pub after_page_release : Book → Name → Book
after_page_release b n = with_claims b 0 (without (claims_of b 0) n)

abbrev pub page_told : Book → Name → Interest
page_told b n = kept b.entries (after_page_release b n).holders (entry_number n b.entries)

-- ---- postponed rollbacks

-- the place of the rollback among these, which are counted from k on
abbrev pub place_in : List Rollback → ℕ → ℕ → Option ℕ
place_in [] k id = None
place_in (r ∷ rs) k id = if r.id == id then Some k else place_in rs (k + 1) id

abbrev pub is_postponed : Book → ℕ → Bool
is_postponed b id = is_some (place_in b.rollbacks 0 id)

-- the owner's claims become those of a rollback that waits for this member
abbrev pub after_postpone : Book → ℕ → ℕ → ℕ → Book
after_postpone b owner id by = record b {
  holders = slice_set b.holders owner [] ++ claims_of b owner ∷ [];
  rollbacks = b.rollbacks ++ record { id = id; by = by } ∷ [];
  room = b.room - 1;
}

-- the rollback at this place now waits for this member
abbrev pub waiting_at : List Rollback → Option ℕ → ℕ → ℕ → List Rollback
waiting_at rs None id by = rs
waiting_at rs (Some k) id by = slice_set rs k (record { id = id; by = by })

-- the rollback at this place is over
abbrev pub ended : Book → ℕ → Book
ended b k = record b { holders = remove b.holders (slots b + k); rollbacks = remove b.rollbacks k; room = b.room + 1 }

-- a rollback is over when no name is left for it to free
abbrev pub after_release_at : Book → ℕ → Book
after_release_at b k = if is_some (release_told b (slots b + k)) then after_release b (slots b + k) else ended (after_release b (slots b + k)) k

abbrev pub after_postponed_release : Book → Option ℕ → Book
after_postponed_release b None = b
after_postponed_release b (Some k) = after_release_at b k

abbrev pub postponed_told : Book → Option ℕ → Option (Name × Interest)
postponed_told b None = None
postponed_told b (Some k) = release_told b (slots b + k)

-- what a rollback that is over leaves goes with it
abbrev pub dropped : Book → Option ℕ → Book
dropped b None = b
dropped b (Some k) = ended (with_claims b (slots b + k) []) k

-- the mode in which the rollback at this place holds the name
abbrev pub held_postponed : Book → Option ℕ → Name → Option Mode
held_postponed b None n = None
held_postponed b (Some k) n = held_by b (slots b + k) n

-- the member that the rollback at this place waits for
abbrev pub postponed_for : Book → Option ℕ → Option ℕ
postponed_for b None = None
postponed_for b (Some k) = Some (slice_index_or b.rollbacks k no_rollback).by

-- ---- all of it is gone

-- nobody has a claim, and the room is all there
abbrev pub emptied : Book → Book
emptied b = record b {
  holders = replicate (slots b) [];
  rollbacks = [];
  spare = b.spare + total b.holders - length (claims_of b 0);
  room = b.room + length b.rollbacks;
}

-- ---- the room behind all this

-- each owner has its claims, and what they leave of the room is free: `own` is that of slot 0, `others` that of the other owners
pub record HasRoom (holders : List (List Claim)) (rollbacks : List Rollback) (agents : ℕ) (own others : Room) : Type 0 where
  pub owners : length holders ≡ agents + 1 + length rollbacks
  pub pages : own.free + length (slice_index_or holders 0 []) ≡ own.size
  pub spare : others.free + total holders ≡ others.size + length (slice_index_or holders 0 [])
