-- A member fails.
use Rattle.std.proofs.Common.{◌≡◌, ◌≢◌, ℕ, zero, suc, ◌+◌, ◌≤◌, refl, sym, ◌∙◌, ap, subst, arith, true, false, List, [], ◌∷◌, ◌++◌, Option, Some}
use Rattle.std.specs.Prelude.{◌-◌, ◌==◌, slice_index_or, slice_set}
use Rattle.std.proofs.lemmas.Bool.{cond-true, eq-eqb}
use Rattle.ds_base.specs.Ids.{IsMember}
use Rattle.list_structure.specs.declared.standing.MemberStatus.{MemberStatus}
use Rattle.list_structure.specs.declared.standing.MemberStatus.TheVariants.{Down, Failed, Restarting, Up}
use Rattle.list_structure.specs.Standings.{is_live, status_of}
use Rattle.list_structure.specs.States.{ListsState}
use Rattle.facility.specs.States.{Held as Facility, MemberFailed}
use Rattle.group_pages.specs.Given.{DownIsBare, Drive, FailsAt, FailuresGo, GroupGoes, HasFailed, LeadsTo, LocksFail, LocksTied, Member, MemberStands, OwnersFail, OwnersStand, SameOthers, cast_of, known, known_by}
use Rattle.group_core.specs.Given.{CrewState}
use Rattle.lock_protocol.specs.Machine.{World as LockWorld}
use Rattle.lock_protocol.specs.Moves.{Fail}
use Rattle.lock_world.specs.Books.{SlotHas}
use Rattle.lock_world.specs.Tied.{Moved}
use Rattle.group_pages.proofs.Given.{within}
use Rattle.page_protocol.specs.Page.{put}
use Rattle.page_protocol.specs.Moves.{World}
use Rattle.page_world.specs.Failing.{without}
use Rattle.page_world.specs.Holdings.{Holdings, no_cast, no_copy, with_facility}
use Rattle.page_world.specs.Numbers.{page_at}
use Rattle.retained_pages.specs.Retained.{FailuresSpare, Retains, SparesOthers}
use Rattle.group_pages.specs.Events.{PageMoves}
use Rattle.page_recoveries.specs.Failing.{BreakLeads, MemberFailsGo}
use Rattle.group_pages.specs.Stands.{CrewPages, DownPages, HoldsPages}
use Rattle.group_pages.proofs.Carry.{all_named, assembled}
use Rattle.group_pages.proofs.Carry as carrying
use Rattle.group_pages.proofs.Going.{run_on}
use Rattle.group_pages.proofs.Owners.{owners_stand}
use Rattle.group_pages.proofs.Up.{apart_at, stood_at}

pub record Facts : Type 0 where
  pub carry : carrying.Facts
  pub fails : FailuresGo
  pub locks : LocksFail
  pub owners : OwnersFail
  pub spare : FailuresSpare
  pub bare : DownIsBare
  pub has : SlotHas

-- ---- its standing
at_set : (xs : List MemberStatus) (i : ℕ) → is_live (slice_index_or (slice_set xs i Failed) i Down) ≡ false
at_set [] i = refl
at_set (x ∷ xs) zero = refl
at_set (x ∷ xs) (suc i) = at_set xs i

dead_up : (s : MemberStatus) → is_live s ≡ false → s ≡ Up → ⊥
dead_up s a b = let live : is_live s ≡ true = ap is_live b in let never : true ≡ false = sym live ∙ a in cc

dead_restarting : (s : MemberStatus) → is_live s ≡ false → s ≡ Restarting → ⊥
dead_restarting s a b = let live : is_live s ≡ true = ap is_live b in let never : true ≡ false = sym live ∙ a in cc

-- ---- it holds nothing of pages
module _ (facts : Facts) (d e : Drive) (old new : CrewState) (at : ℕ) (m n : Member) (l : LockWorld) (w : World) (g : Holdings) (content : ℕ → ℕ → List ℕ) (forced : ℕ → ℕ) (t : LocksTied old l) (f : FailsAt old new at m n) (p : CrewPages d old.facility old.members w g content forced) (broken : BreakLeads w e g content forced m.id) where
  abbrev k : ℕ
  k = at + 1

  stood : MemberStands old.facility k m
  stood = stood_at old l at m t f.had

  is_member : IsMember m.id
  is_member = subst IsMember (sym stood.id) (within old.members at m old.facility.lists.members f.had t.count t.few)

  -- the locks of its pages are retained
  next : (j : ℕ) → j ≡ at → suc j ≡ m.id
  next j same = let id = stood.id in omega (arith, same, id)

  others : (j o c : ℕ) → j ≢ m.id → known new.members j o c ≡ known old.members j o c
  others zero o c ne = refl
  others (suc j) o c ne = ap (λ (z : Option Member). known_by z o c) (f.others j (λ same. ne (next j same)))

  leads : LeadsTo (known old.members) (known new.members) m n
  leads = record {
    others = others;
    own = λ o c. ap (λ z. known new.members z o c) (sym (next at refl)) ∙ ap (λ (z : Option Member). known_by z o c) f.has;
  }

  locked : Moved l (Fail m.id ∷ []) old.facility.locks new.facility.locks new.facility.lists (known new.members)
  locked = facts.locks l old.facility new.facility (known old.members) (known new.members) m n old.sizes t.tied is_member t.few f.failed f.down leads

  owners : OwnersStand l old.facility broken.left.owner
  owners = subst (λ z. OwnersStand l old.facility z) (sym broken.owner) (owners_stand facts.has d old l w g content forced t p)

  retained : HasFailed locked.world new.facility broken.left.owner m.id
  retained = facts.owners l old.facility new.facility (known old.members) (known new.members) broken.left.owner m.id t.sound t.tied is_member f.failed locked owners

  -- ---- in the world of pages
  failed : MemberFailed broken.left.facility k new.facility
  failed = subst (λ z. MemberFailed broken.left.facility z new.facility) stood.id (subst (λ (z : Facility). MemberFailed z m.id new.facility) (sym (broken.facility ∙ p.facility)) f.failed)

  abbrev left : Holdings
  left = with_facility (without broken.left k) new.facility

  goes : GroupGoes broken.world broken.left left content forced k
  goes = facts.fails broken.world broken.left content forced k new.facility broken.stands (omega arith) failed

  first : SameOthers g broken.left forced forced k
  first = subst (λ z. SameOthers g broken.left forced forced z) stood.id broken.others

  same : SameOthers g left forced forced k
  same = record {
    members = goes.others.members ∙ first.members;
    statuses = λ j least ne. goes.others.statuses j least ne ∙ first.statuses j least ne;
    counter = (let x = first.counter in let y = goes.others.counter in omega (arith, x, y));
    log = λ j ne. refl;
    stable = λ j ne. goes.others.stable j ne ∙ first.stable j ne;
    written = λ j ne. goes.others.written j ne ∙ first.written j ne;
    copies = λ j i ne. goes.others.copies j i ne ∙ first.copies j i ne;
    casts = λ j i ne. goes.others.casts j i ne ∙ first.casts j i ne;
    keeps = λ j i ne x. goes.others.keeps j i ne (first.keeps j i ne x);
    takes = λ j i ne x. first.takes j i ne (goes.others.takes j i ne x);
  }

  spares : SparesOthers g.facility new.facility k
  spares = subst (λ z. SparesOthers g.facility new.facility z) stood.id (subst (λ (z : Facility). SparesOthers z new.facility m.id) (sym p.facility) (facts.spare old.facility new.facility m.id f.failed))

  dead : is_live (status_of new.facility.lists.statuses k) ≡ false
  dead = ap (λ (z : List MemberStatus). is_live (status_of z k)) statuses ∙ at_set old.facility.lists.statuses (k - 1)
    where
      statuses : new.facility.lists.statuses ≡ slice_set old.facility.lists.statuses (k - 1) Failed
      statuses = subst (λ z. new.facility.lists.statuses ≡ slice_set old.facility.lists.statuses (z - 1) Failed) stood.id (ap (λ (z : ListsState). z.statuses) f.failed.lists.others)

  -- the member itself
  own_put : {A : Type 0} → (h : ℕ → A) (x : A) → put h k x k ≡ x
  own_put h x = cond-true (k == k) x (h k) (eq-eqb k k refl)

  down : DownPages left k
  down = record {
    level = own_put broken.left.written (broken.left.stable k);
    copies = λ j. cond-true (k == k) no_copy (broken.left.copies k j) (eq-eqb k k refl);
    owns = subst (λ z. (j : ℕ) → broken.left.owner j ≡ Some z → Retains new.facility z (page_at j)) stood.id retained.own;
  }

  here : HoldsPages left forced k n.holds n.restart
  here = record {
    up = λ is. absurd (dead_up (status_of new.facility.lists.statuses k) dead is);
    restarts = λ is. absurd (dead_restarting (status_of new.facility.lists.statuses k) dead is);
    down = λ _. (down, facts.bare old.sizes n f.down, λ j. cond-true (k == k) no_cast (broken.left.casts k j) (eq-eqb k k refl) ∙ sym (ap (λ z. cast_of z n.holds.buffer j) f.down.holds.cast));
  }

  owned : (j i : ℕ) → left.owner j ≡ Some i → (1 ≤ i) × (i ≤ left.facility.lists.members)
  owned j i is = let y = p.owned j i (sym (ap (λ h. h j) broken.owner) ∙ is) in (y.0, subst (λ z. i ≤ z) (sym same.members) y.1)

  fails_go : PageMoves e new w
  fails_go = record {
    moves = broken.moves ++ goes.moves;
    world = goes.world;
    run = run_on w broken.world goes.world broken.moves goes.moves broken.run goes.run;
    tied = record {
      holdings = left;
      versions = content;
      forced = forced;
      pages = assembled facts.carry d e old.facility new.facility old.members new.members at k n w goes.world g left content content forced forced (all_named old.facility old.members t.stands) p
          goes.stands refl broken.drive same spares (λ j ne. apart_at j at ne) f.has f.others owned here;
    };
  }

pub member_fails : Facts → MemberFailsGo
member_fails facts d e old new at m n l w locks f t broken = fails_go facts d e old new at m n l w t.holdings t.versions t.forced locks f t.pages broken
