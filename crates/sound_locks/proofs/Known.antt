-- Each claim in the list of a group's is one that its member knows of.
use Rattle.std.proofs.Common.{◌≡◌, ℕ, zero, suc, ◌+◌, ◌≤◌, ◌<◌, refl, sym, ap, subst, ◌∙◌, arith, Bool, true, false, List, [], ◌∷◌, ◌++◌, length, Option, Some, None}
use Rattle.std.specs.Prelude.{◌==◌, IfSome, if◌then◌else◌, flat_map, slice_get}
use Rattle.std.specs.List.{AllByRecursion}
use Rattle.std.proofs.lemmas.Bool.{cond-true, eq-eqb}
use Rattle.ds_base.specs.declared.names.PageId.{PageId}
use Rattle.ds_model.specs.declared.lock.Name.TheVariants as name
use Rattle.lock_names.specs.declared.mode.Mode.{Mode}
use Rattle.lock_names.specs.declared.mode.Mode.TheVariants.{X}
use Rattle.facility.specs.States.{Held}
use Rattle.lock_members.specs.Known.{known_of, or_else, page_claim, restart_claim}
use Rattle.lock_protocol.specs.Machine.{World}
use Rattle.lock_world.specs.Numbers.{number}
use Rattle.lock_world.specs.Views.{claim_in}
use Rattle.rested_logs.specs.Given.{CrewState, LocksTied, Member, MemberStands, RestartInHand, Restarting, known, known_by}
use Rattle.sound_locks.specs.Claims.{LockClaim, book_claims, claims_in, member_claims, page_claims, restart_claims}
use Rattle.sound_locks.proofs.Listed.{IsHeld, all_join, all_weaker, book_held}

-- ---- a member

-- the claim is the member's, who knows of it
abbrev IsKnown : Member → LockClaim → Type 0
IsKnown m a = (a.member ≡ m.id) × (known_of m a.owner (number a.name) ≡ Some a.mode)

-- its restart's, where the lock manager has none
page_known : (m : Member) (q : Restarting) (p : Option PageId) → m.restart ≡ Some q → q.resources.marks.claim ≡ p → ((c : ℕ) → claim_in m.holds.marks.locks 0 c ≡ None) → AllByRecursion (IsKnown m) (page_claims m.id p)
page_known m q None is claim none = tt
page_known m q (Some p) is claim none = ((refl, here), tt)
  where
    c : ℕ
    c = number (name.Page p)

    here : known_of m 0 c ≡ Some X
    here = ap (λ (z : Option Mode). or_else z (restart_claim m.restart 0 c)) (none c)
        ∙ ap (λ (z : Option Restarting). restart_claim z 0 c) is
        ∙ ap (λ (z : Option PageId). page_claim z c) claim
        ∙ cond-true (c == number (name.Page p)) (Some X) None (eq-eqb c (number (name.Page p)) refl)

restart_known : (k : ℕ) (m : Member) (r : Option Restarting) → m.restart ≡ r → RestartInHand k m r → AllByRecursion (IsKnown m) (restart_claims m.id r)
restart_known k m None is stands = tt
restart_known k m (Some q) is stands = page_known m q q.resources.marks.claim is refl stands.own

member_known : (f : Held) (k : ℕ) (m : Member) → MemberStands f k m → AllByRecursion (IsKnown m) (member_claims m)
member_known f k m stands = all_join (IsKnown m) (book_claims m.id m.holds.marks.locks) (restart_claims m.id m.restart)
    (all_weaker (IsHeld m.id m.holds.marks.locks) (IsKnown m)
    (λ a held. (held.0, ap (λ (z : Option Mode). or_else z (restart_claim m.restart a.owner (number a.name))) held.1))
    (book_claims m.id m.holds.marks.locks) (book_held m.id m.holds.marks.locks stands.book))
    (restart_known k m m.restart refl stands.restart)

-- ---- all members

-- the claim is that of one of them, who knows of it
pub record IsTold (members : List Member) (a : LockClaim) : Type 0 where
  pub least : 1 ≤ a.member
  pub most : a.member ≤ length members
  pub knows : known members a.member a.owner (number a.name) ≡ Some a.mode

one_told : (all : List Member) (m : Member) (at : ℕ) (a : LockClaim) → m.id ≡ suc at → at < length all → Some m ≡ slice_get all at → IsKnown m a → IsTold all a
one_told all m at a id lt here is = record {
  least = omega (arith, is.0, id);
  most = omega (arith, is.0, id, lt);
  knows = ap (λ (z : ℕ). known all z a.owner (number a.name)) (is.0 ∙ id) ∙ ap (λ (z : Option Member). known_by z a.owner (number a.name)) (sym here) ∙ is.1;
}

told_from : (f : Held) (all ms : List Member) (past : ℕ) → past + length ms ≡ length all → ((j : ℕ) → slice_get ms j ≡ slice_get all (past + j)) → ((j : ℕ) → IfSome (slice_get ms j) (MemberStands f (past + j + 1)))
    → AllByRecursion (IsTold all) (flat_map member_claims ms)
told_from f all [] past long same stands = tt
told_from f all (m ∷ ms) past long same stands =
    let there : slice_get all (past + 0) ≡ slice_get all past = ap (λ (z : ℕ). slice_get all z) (omega arith) in
    let id : m.id ≡ suc past = (stands 0).id ∙ (omega arith) in
    all_join (IsTold all) (member_claims m) (flat_map member_claims ms)
    (all_weaker (IsKnown m) (IsTold all) (λ a is. one_told all m past a id (omega (arith, long)) (same 0 ∙ there) is) (member_claims m) (member_known f (past + 0 + 1) m (stands 0)))
    (told_from f all ms (suc past) (omega (arith, long))
    (λ j. same (suc j) ∙ ap (λ (z : ℕ). slice_get all z) (later j))
    (λ j. subst (λ (z : ℕ). IfSome (slice_get ms j) (MemberStands f (z + 1))) (later j) (stands (suc j))))
  where
    later : (j : ℕ) → past + suc j ≡ suc past + j
    later j = omega arith

from_none : (j : ℕ) → j ≡ 0 + j
from_none j = omega arith

pub all_told : (s : CrewState) (w : World) → LocksTied s w → AllByRecursion (IsTold s.members) (claims_in s)
all_told s w t = told_from s.facility s.members s.members 0 (omega arith) (λ j. ap (λ (z : ℕ). slice_get s.members z) (from_none j))
    (λ j. subst (λ (z : ℕ). IfSome (slice_get s.members j) (MemberStands s.facility (z + 1))) (from_none j) (t.stands j))
