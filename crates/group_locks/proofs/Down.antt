-- A member that holds nothing stands in its group.
use Rattle.std.proofs.Common.{◌≡◌, ℕ, zero, suc, ◌+◌, ◌≤◌, refl, sym, ◌∙◌, ap, subst, arith, Bool, true, false, List, [], length, Option, None}
use Rattle.std.specs.Prelude.{◌≢◌, if◌then◌else◌, is_some, nat_lt, replicate, slice_index_or}
use Rattle.ds_base.specs.declared.names.Sizes.{Sizes}
use Rattle.list_structure.specs.declared.standing.MemberStatus.TheVariants.{Restarting}
use Rattle.list_structure.specs.Standings.{status_of}
use Rattle.lock_names.specs.declared.mode.Mode.{Mode}
use Rattle.lock_manager.specs.declared.claim.Claim.{Claim}
use Rattle.lock_manager.specs.declared.claim.Rollback.{Rollback}
use Rattle.lock_manager.specs.Buckets.{AreDistinct}
use Rattle.lock_manager.specs.Claims.{mode_in}
use Rattle.facility.specs.States.{Held as Facility}
use Rattle.member_trans.specs.Trans.{TransState, free_tran, is_free}
use Rattle.member_resources.specs.Held.{Held, IsNew}
use Rattle.group_member.specs.declared.restarting.Restarting.{Restarting as RestartHeld}
use Rattle.group_member.specs.Members.{IsDown, Member}
use Rattle.group_member.specs.Resting.{NoneInSlots}
use Rattle.lock_world.specs.Books.{AreApart, IsBook}
use Rattle.lock_world.specs.Numbers.{name_at}
use Rattle.lock_world.specs.Views.{claims_from, is_slot}
use Rattle.lock_members.specs.Known.{known_of, or_else, restart_claim}
use Rattle.marks_law.specs.Free.{FreeBegin}
use Rattle.marks_law.specs.Slots.{SlotsBegin}
use Rattle.group_locks.specs.Stands.{ClaimsNothing, MemberStands, RestartInHand}

abbrev pub nothing : List Claim
nothing = []

none_at : (n o : ℕ) → slice_index_or (replicate n nothing) o [] ≡ nothing
none_at zero o = refl
none_at (suc n) zero = refl
none_at (suc n) (suc o) = none_at n o

so_many : (n : ℕ) → length (replicate n nothing) ≡ n
so_many zero = refl
so_many (suc n) = ap suc (so_many n)

no_claims : (n agents o : ℕ) → claims_from (replicate n nothing) [] agents o ≡ nothing
no_claims n agents o = by (is_slot o) (nat_lt o (agents + 1))
  where
    by : (b d : Bool) → (if b then (if d then slice_index_or (replicate n nothing) o [] else []) else []) ≡ nothing
    by true true = none_at n o
    by true false = refl
    by false d = refl

-- ---- its lock manager
pub new_claims : (member : ℕ) (sizes : Sizes) (h : Held) → IsNew member sizes h → ClaimsNothing h.marks.locks
new_claims member sizes h new o c =
    let claims : claims_from h.marks.locks.holders h.marks.locks.rollbacks h.marks.locks.agents o ≡ nothing =
    ap (λ (z : List (List Claim)). claims_from z h.marks.locks.rollbacks h.marks.locks.agents o) new.marks.holders
    ∙ ap (λ (z : List Rollback). claims_from (replicate (sizes.agents + 1) nothing) z h.marks.locks.agents o) new.marks.rollbacks
    ∙ no_claims (sizes.agents + 1) h.marks.locks.agents o in
    ap (λ (z : List Claim). mode_in z (name_at c)) claims

new_count : (holders : List (List Claim)) (rollbacks : List Rollback) (agents most : ℕ) → holders ≡ replicate (most + 1) nothing → rollbacks ≡ [] → agents ≡ most → length holders ≡ agents + 1 + length rollbacks
new_count holders rollbacks agents most hs rs same =
    let many : length holders ≡ most + 1 = ap (λ (z : List (List Claim)). length z) hs ∙ so_many (most + 1) in
    let none : length rollbacks ≡ 0 = ap (λ (z : List Rollback). length z) rs in
    omega (arith, many, none, same)

-- ---- its slots
free_at : (n slot : ℕ) → is_free (slice_index_or (replicate n free_tran) slot free_tran).stage ≡ true
free_at zero slot = refl
free_at (suc n) zero = refl
free_at (suc n) (suc slot) = free_at n slot

new_slots : (member : ℕ) (sizes : Sizes) (h : Held) → IsNew member sizes h → NoneInSlots h.marks
new_slots member sizes h new slot agent = ap (λ (z : TransState). is_free (slice_index_or z.slots slot free_tran).stage) new.marks.trans ∙ free_at (sizes.agents + 1) slot

pub new_book : (member : ℕ) (sizes : Sizes) (h : Held) → IsNew member sizes h → sizes.agents ≤ 16 → IsBook h.marks.locks
new_book member sizes h new few = record {
  owners = new_count h.marks.locks.holders h.marks.locks.rollbacks h.marks.locks.agents sizes.agents new.marks.holders new.marks.rollbacks new.marks.sizes.0;
  few = subst (λ z. z ≤ 16) (sym new.marks.sizes.0) few;
  once = λ i. subst (λ (z : List Claim). AreDistinct z) (sym (ap (λ (z : List (List Claim)). slice_index_or z i []) new.marks.holders ∙ none_at (sizes.agents + 1) i)) tt;
  apart = subst (λ (z : List Rollback). AreApart z) (sym new.marks.rollbacks) tt;
}

-- ---- what it knows
pub none_known : (m : Member) (sizes : Sizes) → IsDown sizes m → (o c : ℕ) → known_of m o c ≡ None
none_known m sizes down o c =
    ap (λ (z : Option Mode). or_else z (restart_claim m.restart o c)) (new_claims m.id sizes m.holds down.holds o c)
    ∙ ap (λ (z : Option RestartHeld). restart_claim z o c) down.rests

never : false ≡ true → ⊥
never e = cc

pub down_stands : SlotsBegin → FreeBegin → (f : Facility) (k : ℕ) (m : Member) (sizes : Sizes) → IsDown sizes m → m.id ≡ k → sizes.agents ≤ 16 → length f.locks.entries ≡ sizes.locks → status_of f.lists.statuses k ≢ Restarting → MemberStands f k m
down_stands begin free f k m sizes down id few entries other = record {
  id = id;
  member = down.holds.marks.member_is ∙ id;
  size = down.holds.marks.sizes.1 ∙ sym entries;
  book = new_book m.id sizes m.holds down.holds few;
  slots = begin m.id sizes m.holds down.holds;
  free = free m.id sizes m.holds down.holds;
  up = λ _. down.rests;
  restarts = λ s. absurd (other s);
  rests = λ s. absurd (never (ap (λ (z : Option RestartHeld). is_some z) (sym down.rests) ∙ s));
  restart = subst (λ (z : Option RestartHeld). RestartInHand k m z) (sym down.rests) tt;
  down = λ _. (down.rests, new_claims m.id sizes m.holds down.holds, new_slots m.id sizes m.holds down.holds, λ i. (down.holds.marks.log i).pending);
}
