-- A group as it was made stands beside the start of both worlds.
use Rattle.std.proofs.Common.{◌≡◌, ℕ, zero, suc, ◌+◌, ◌≤◌, refl, sym, ◌∙◌, ap, subst, arith, Bool, true, false, List, [], length, None, replicate}
use Rattle.std.specs.Prelude.{nat_lt, if◌then◌else◌, slice_index_or}
use Rattle.std.proofs.lemmas.Option.{none-some}
use Rattle.ds_base.specs.declared.names.Sizes.{Sizes}
use Rattle.lock_structure.specs.Locks.{Locks}
use Rattle.list_structure.specs.declared.standing.MemberStatus.TheVariants.{Up}
use Rattle.list_structure.specs.Standings.{status_of}
use Rattle.list_structure.specs.States.{IsNew as AreNewLists}
use Rattle.facility.specs.States.{Held as Facility}
use Rattle.lock_manager.specs.declared.claim.Claim.{Claim}
use Rattle.lock_manager.specs.declared.claim.Rollback.{Rollback}
use Rattle.lock_manager.specs.Buckets.{AreDistinct}
use Rattle.lock_manager.specs.Claims.{mode_in}
use Rattle.lock_protocol.specs.Machine.{start as lock_start}
use Rattle.lock_protocol.specs.Sound.{StartsSound}
use Rattle.lock_world.specs.Books.{AreApart, IsBook}
use Rattle.lock_world.specs.Failing.{StartsTied}
use Rattle.lock_world.specs.Numbers.{name_at}
use Rattle.lock_world.specs.Tied.{Tied}
use Rattle.lock_world.specs.Views.{claim_in, claims_from, entry_in, is_slot}
use Rattle.marks_law.specs.Slots.{SlotsBegin}
use Rattle.member_resources.specs.Held.{Held, IsNew}
use Rattle.page_groups.specs.Groups.{GroupsStart as PagesStart, GroupStands, among, made}
use Rattle.page_protocol.specs.Moves.{start}
use Rattle.page_owners.specs.Owners.{BeginInX, LocksStand}
use Rattle.page_owners.specs.Groups.{GroupsBegin, GroupsStart}

-- ---- no claims
abbrev nothing : List Claim
nothing = []

none_at : (n o : ℕ) → slice_index_or (replicate n nothing) o [] ≡ nothing
none_at zero o = refl
none_at (suc n) zero = refl
none_at (suc n) (suc o) = none_at n o

so_many : {A : Type 0} → (n : ℕ) (a : A) → length (replicate n a) ≡ n
so_many zero a = refl
so_many (suc n) a = ap suc (so_many n a)

no_claims : (n agents o : ℕ) → claims_from (replicate n nothing) [] agents o ≡ nothing
no_claims n agents o = by (is_slot o) (nat_lt o (agents + 1))
  where
    by : (b d : Bool) → (if b then (if d then slice_index_or (replicate n nothing) o [] else []) else []) ≡ nothing
    by true true = none_at n o
    by true false = refl
    by false d = refl

module _ (m : ℕ) (sizes : Sizes) (h : Held) (new : IsNew m sizes h) where
  claims_none : (o c : ℕ) → claim_in h.marks.locks o c ≡ None
  claims_none o c =
      ap (λ (z : List (List Claim)). mode_in (claims_from z h.marks.locks.rollbacks h.marks.locks.agents o) (name_at c)) new.marks.holders
      ∙ ap (λ (z : List Rollback). mode_in (claims_from (replicate (sizes.agents + 1) nothing) z h.marks.locks.agents o) (name_at c)) new.marks.rollbacks
      ∙ ap (λ (z : List Claim). mode_in z (name_at c)) (no_claims (sizes.agents + 1) h.marks.locks.agents o)

  book : sizes.agents ≤ 16 → IsBook h.marks.locks
  book few = record {
    owners = owners;
    few = subst (λ z. z ≤ 16) (sym new.marks.sizes.0) few;
    once = λ i. subst (λ (z : List Claim). AreDistinct z) (sym (ap (λ (z : List (List Claim)). slice_index_or z i []) new.marks.holders ∙ none_at (sizes.agents + 1) i)) tt;
    apart = subst (λ (z : List Rollback). AreApart z) (sym new.marks.rollbacks) tt;
  }
    where
      owners : length h.marks.locks.holders ≡ h.marks.locks.agents + 1 + length h.marks.locks.rollbacks
      owners =
          let many : length h.marks.locks.holders ≡ sizes.agents + 1 = ap (λ (z : List (List Claim)). length z) new.marks.holders ∙ so_many (sizes.agents + 1) nothing in
          let none : length h.marks.locks.rollbacks ≡ 0 = ap (λ (z : List Rollback). length z) new.marks.rollbacks in
          let same = new.marks.sizes.0 in
          omega (arith, many, none, same)

-- ---- the group
pub groups_begin : StartsTied → StartsSound → SlotsBegin → BeginInX → GroupsBegin
groups_begin starts sound slots in_x w u g content forced counter sizes held hs stood free f few agents knows new = record {
  pages = stood;
  sound = sound (entry_in u.facility.locks);
  tied = subst (λ (z : Locks). Tied lock_start z u.facility.lists held) (sym f.locks_empty)
      (starts sizes.locks sizes.records (sizes.pool + 128) sizes.agents u.facility.lists held (subst (λ z. z ≤ 32) (sym kept) few) (subst (λ z. AreNewLists u.facility.lists z sizes.agents) (sym kept) f.lists_new) knows);
  owners = λ n k e. absurd (none-some k (sym (free n) ∙ e));
  each = λ m e. each m e (new m e);
}
  where
    kept : u.facility.lists.members ≡ sizes.members
    kept = f.lists_new.members_kept

    entries : length u.facility.locks.entries ≡ sizes.locks
    entries = ap (λ (z : Locks). length z.entries) f.locks_empty ∙ so_many sizes.locks _

    each : (m : ℕ) → among sizes.members m ≡ true → IsNew m sizes (hs m) → LocksStand u.facility held (hs m).marks
    each m e h =
        let paged = stood.each m e in
        let most : (hs m).marks.member ≤ u.facility.lists.members = subst (λ (z : Facility). (hs m).marks.member ≤ z.lists.members) stood.facility paged.among in
        record {
          up = record {
            member = (paged.least, omega (arith, most, kept, few));
            among = most;
            few = subst (λ z. z ≤ 32) (sym kept) few;
            up = subst (λ (z : Facility). status_of z.lists.statuses (hs m).marks.member ≡ Up) stood.facility paged.up;
            size = h.marks.sizes.1 ∙ sym entries;
            book = book m sizes (hs m) h agents;
          };
          slots = slots m sizes (hs m) h;
          knows = λ o c. knows (hs m).marks.member o c ∙ sym (claims_none m sizes (hs m) h o c);
          in_x = in_x m sizes (hs m) h;
        }

pub groups_start : GroupsBegin → PagesStart → GroupsStart
groups_start begin pages_start u pages sizes held hs f shows few agents knows new =
    begin start u (made u.facility pages) (λ n v. pages n) (λ m. 0) 0 sizes held hs (pages_start u pages sizes hs f shows few new) (λ n. refl) f few agents knows new
