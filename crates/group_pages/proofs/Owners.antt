-- Who owns a page, in the world of locks: the member claims it, or the facility has retained its lock.
use Rattle.std.proofs.Common.{◌≡◌, ℕ, zero, suc, ◌+◌, ◌≤◌, ◌<◌, refl, sym, ◌∙◌, ap, subst, arith, true, false, inl, inr, List, [], ◌∷◌, length, Option, Some, None}
use Rattle.std.specs.Prelude.{◌⊎◌, ◌==◌, IfSome, is_some, slice_get}
use Rattle.std.proofs.lemmas.Bool.{cases_Bool, cond-true, eq-eqb}
use Rattle.std.proofs.lemmas.Option.{none-some}
use Rattle.ds_base.specs.declared.names.PageId.{PageId}
use Rattle.ds_model.specs.declared.lock.Name.TheVariants as name
use Rattle.lock_names.specs.declared.mode.Mode.TheVariants.{X}
use Rattle.list_structure.specs.declared.standing.MemberStatus.{MemberStatus}
use Rattle.list_structure.specs.declared.standing.MemberStatus.TheVariants as status
use Rattle.list_structure.specs.Standings.{is_live, status_of}
use Rattle.lock_manager.specs.Managers.{claims_of, held_by}
use Rattle.facility.specs.States.{Held as Facility}
use Rattle.member_marks.specs.Claims.{has_page}
use Rattle.page_owners.specs.Given.{Drive, Member, RestartHeld}
use Rattle.group_locks.specs.Given.{CrewState, known_of, or_else, restart_claim}
use Rattle.lock_protocol.specs.Machine.{World as LockWorld}
use Rattle.lock_world.specs.Books.{SlotHas}
use Rattle.lock_world.specs.Numbers.{number}
use Rattle.lock_world.specs.Tied.{ClaimTied}
use Rattle.lock_world.specs.Views.{claim_in}
use Rattle.group_locks.specs.Stands.{LocksTied, MemberStands, RestartInHand, RestartStands, known, known_by}
use Rattle.page_protocol.specs.Moves.{World}
use Rattle.page_world.specs.Holdings.{Holdings}
use Rattle.page_world.specs.Numbers.{page_at}
use Rattle.page_owners.proofs.InX.{held_x}
use Rattle.retained_pages.specs.Retained.{Retains}
use Rattle.restart_owners.specs.Owners.{OwnersStand}
use Rattle.group_pages.specs.Stands.{CrewPages, HoldsPages, RestartPages, UpPages}

-- ---- members by their numbers
pub member_there : (ms : List Member) (at : ℕ) → at < length ms → (m : Member) × (slice_get ms at ≡ Some m)
member_there [] at lt = absurd (none at lt)
  where
    none : (at : ℕ) → at < 0 → ⊥
    none at lt = omega (arith, lt)
member_there (m ∷ ms) zero lt = (m, refl)
member_there (m ∷ ms) (suc at) lt = member_there ms at (omega (arith, lt))

pub known_there : (s : CrewState) (at o c : ℕ) (m : Member) → slice_get s.members at ≡ Some m → known s.members (at + 1) o c ≡ known_of m o c
known_there s at o c m e = ap (λ z. known s.members z o c) (next at) ∙ ap (λ (z : Option Member). known_by z o c) e
  where
    next : (at : ℕ) → at + 1 ≡ suc at
    next at = omega arith

-- what a member knows to claim, the world has
pub claims_known : (s : CrewState) (l : LockWorld) (at c : ℕ) (m : Member) → LocksTied s l → slice_get s.members at ≡ Some m → known_of m 0 c ≡ Some X → l.claims (at + 1) 0 c ≡ Some X
claims_known s l at c m t e knows = elim (cases_Bool (l.live (at + 1))) [
  | inl live ↦ subst (λ z. ClaimTied (l.claims (at + 1) 0 c) z (l.records (at + 1) c)) (known_there s at 0 c m e ∙ knows) (t.tied.claims (at + 1) 0 c live)
  | inr dead ↦ absurd (none-some X (sym (t.tied.down (at + 1) 0 c dead) ∙ (known_there s at 0 c m e ∙ knows)))
]

-- ---- what it knows: the pages that its lock manager claims, and the one whose lock its restart has
pub page_known : SlotHas → (f : Facility) (k : ℕ) (m : Member) (p : PageId) → MemberStands f k m → held_by m.holds.marks.locks 0 (name.Page p) ≡ Some X → known_of m 0 (number (name.Page p)) ≡ Some X
page_known has f k m p stands held =
    let c = number (name.Page p) in
    let own : claim_in m.holds.marks.locks 0 c ≡ Some X = has m.holds.marks.locks 0 (name.Page p) stands.book (omega arith) ∙ held in
    ap (λ z. or_else z (restart_claim m.restart 0 c)) own

abbrev with_claim : RestartHeld → Option PageId → RestartHeld
with_claim q claim = record q { resources = record q.resources { marks = record q.resources.marks { claim = claim } } }

restart_known : (m : Member) (k : ℕ) (q : RestartHeld) (p : PageId) → m.restart ≡ Some q → RestartStands k m q.resources.marks → q.resources.marks.claim ≡ Some p → known_of m 0 (number (name.Page p)) ≡ Some X
restart_known m k q p had stands claimed =
    let c = number (name.Page p) in
    ap (λ z. or_else z (restart_claim m.restart 0 c)) (stands.own c) ∙ ap (λ (z : Option RestartHeld). restart_claim z 0 c) had ∙ ap (λ z. restart_claim (Some (with_claim q z)) 0 c) claimed ∙ cond-true (c == c) (Some X) None (eq-eqb c c refl)

-- ---- by its standing
standings : (s : MemberStatus) → (s ≡ status.Up) ⊎ ((s ≡ status.Restarting) ⊎ (is_live s ≡ false))
standings status.Up = inl refl
standings status.Restarting = inr (inl refl)
standings status.Failed = inr (inr refl)
standings status.Down = inr (inr refl)

module _ (has : SlotHas) (d : Drive) (s : CrewState) (l : LockWorld) (w : World) (g : Holdings) (content : ℕ → ℕ → List ℕ) (forced : ℕ → ℕ) (t : LocksTied s l) (p : CrewPages d s.facility s.members w g content forced) where
  status_in : (k : ℕ) → status_of g.facility.lists.statuses k ≡ status_of s.facility.lists.statuses k
  status_in k = ap (λ (z : Facility). status_of z.lists.statuses k) p.facility

  abbrev ClaimsOrRetains : ℕ → ℕ → Type 0
  ClaimsOrRetains n k = (l.claims k 0 (number (name.Page (page_at n))) ≡ Some X) ⊎ Retains s.facility k (page_at n)

  in_facility : (k n : ℕ) → Retains g.facility k (page_at n) → ClaimsOrRetains n k
  in_facility k n r = inr (subst (λ (z : Facility). Retains z k (page_at n)) p.facility r)

  up_owns : (n at : ℕ) (m : Member) → slice_get s.members at ≡ Some m → MemberStands s.facility (at + 1) m → UpPages g forced m.holds → g.owner n ≡ Some (at + 1) → ClaimsOrRetains n (at + 1)
  up_owns n at m e stands y owned = elim (cases_Bool (has_page m.holds.marks (page_at n))) [
    | inl so ↦ inl (claims_known s l at (number (name.Page (page_at n))) m t e
        (page_known has s.facility (at + 1) m (page_at n) stands (held_x (claims_of m.holds.marks.locks 0) (name.Page (page_at n)) y.in_x so)))
    | inr none ↦ absurd (y.up.no_more n none (owned ∙ ap Some (sym stands.member)))
  ]

  restart_owns : (n at : ℕ) (m : Member) (q : RestartHeld) → slice_get s.members at ≡ Some m → m.restart ≡ Some q → RestartStands (at + 1) m q.resources.marks → RestartPages g forced q.resources → g.owner n ≡ Some (at + 1) → ClaimsOrRetains n (at + 1)
  restart_owns n at m q e had stands y owned = elim (y.owns.retained n (owned ∙ ap Some (sym stands.member))) [
    | inl claimed ↦ inl (claims_known s l at (number (name.Page (page_at n))) m t e (restart_known m (at + 1) q (page_at n) had stands claimed))
    | inr r ↦ in_facility (at + 1) n (subst (λ z. Retains g.facility z (page_at n)) stands.member r)
  ]

  member_owns : (n at : ℕ) (m : Member) → slice_get s.members at ≡ Some m → MemberStands s.facility (at + 1) m → HoldsPages g forced (at + 1) m.holds m.restart → g.owner n ≡ Some (at + 1) → ClaimsOrRetains n (at + 1)
  member_owns n at m e stands y owned = by (standings (status_of s.facility.lists.statuses (at + 1)))
    where
      none_some : false ≡ true → ⊥
      none_some z = cc z

      in_hand : (o : Option RestartHeld) → m.restart ≡ o → status_of s.facility.lists.statuses (at + 1) ≡ status.Restarting → RestartInHand (at + 1) m o → IfSome o (λ (q : RestartHeld). RestartPages g forced q.resources) → ClaimsOrRetains n (at + 1)
      in_hand None is standing hand r = absurd (none_some (sym (ap (λ (z : Option RestartHeld). is_some z) is) ∙ stands.restarts standing))
      in_hand (Some q) is standing hand r = restart_owns n at m q e is hand r owned

      by : (status_of s.facility.lists.statuses (at + 1) ≡ status.Up) ⊎ ((status_of s.facility.lists.statuses (at + 1) ≡ status.Restarting) ⊎ (is_live (status_of s.facility.lists.statuses (at + 1)) ≡ false)) → ClaimsOrRetains n (at + 1)
      by (inl is) = up_owns n at m e stands (y.up (status_in (at + 1) ∙ is)) owned
      by (inr (inl is)) = in_hand m.restart refl is stands.restart (y.restarts (status_in (at + 1) ∙ is)).0
      by (inr (inr dead)) = in_facility (at + 1) n ((y.down (ap is_live (status_in (at + 1)) ∙ dead)).0.owns n owned)

  owners_in : OwnersStand l s.facility g.owner
  owners_in n zero owned = absurd (no_zero (p.owned n zero owned).0)
    where
      no_zero : 1 ≤ 0 → ⊥
      no_zero e = omega (arith, e)
  owners_in n (suc at) owned = subst (λ z. ClaimsOrRetains n z) (next at) (member_owns n at there.0 there.1 (stood there.0 there.1) (held there.0 there.1) (owned ∙ ap Some (sym (next at))))
    where
      next : (at : ℕ) → at + 1 ≡ suc at
      next at = omega arith

      among : at + 1 ≤ s.facility.lists.members
      among = let y = (p.owned n (suc at) owned).1 in subst (λ (z : Facility). at + 1 ≤ z.lists.members) p.facility (omega (arith, y))

      there : (m : Member) × (slice_get s.members at ≡ Some m)
      there = let count = t.count in member_there s.members at (omega (arith, among, count))

      stood : (m : Member) → slice_get s.members at ≡ Some m → MemberStands s.facility (at + 1) m
      stood m e = subst (λ (z : Option Member). IfSome z (MemberStands s.facility (at + 1))) e (t.stands at)

      held : (m : Member) → slice_get s.members at ≡ Some m → HoldsPages g forced (at + 1) m.holds m.restart
      held m e = subst (λ (z : Option Member). IfSome z (λ (x : Member). HoldsPages g forced (at + 1) x.holds x.restart)) e (p.members at)

pub owners_stand : SlotHas → (d : Drive) (s : CrewState) (l : LockWorld) (w : World) (g : Holdings) (content : ℕ → ℕ → List ℕ) (forced : ℕ → ℕ) → LocksTied s l → CrewPages d s.facility s.members w g content forced → OwnersStand l s.facility g.owner
owners_stand has d s l w g content forced t p = owners_in has d s l w g content forced t p
