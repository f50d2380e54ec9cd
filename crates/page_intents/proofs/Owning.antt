-- Page locks are taken and given up.
use Rattle.std.proofs.Common.{◌≡◌, ◌≢◌, ℕ, ◌≤◌, refl, sym, ap, subst, ◌∙◌, Bool, true, false, inl, inr, List, [], ◌∷◌, length, Option, Some, None, arith, slice_set}
use Rattle.std.specs.Prelude.{◌⊎◌, ◌==◌, ◌||◌, if◌then◌else◌, is_some, slice_index_or}
use Rattle.std.proofs.lemmas.Bool.{cond-true, cond-false, both_ways, cases_Bool, cases_eq, eq-eqb, ne_eqb, false_from_ne_true}
use Rattle.std.proofs.lemmas.Option.{none-some}
use Rattle.lock_names.specs.declared.mode.Interest.{Interest}
use Rattle.ds_base.specs.declared.names.PageId.{PageId}
use Rattle.ds_base.specs.Pages.{same_page}
use Rattle.ds_model.specs.declared.lock.Name.{Name}
use Rattle.ds_model.specs.declared.lock.Name.TheVariants as name
use Rattle.lock_names.specs.declared.mode.Mode.{Mode}
use Rattle.lock_names.specs.declared.mode.Mode.TheVariants.{X}
use Rattle.lock_names.specs.Names.{same_name}
use Rattle.lock_names.proofs.Names.{same_equal, same_turn}
use Rattle.list_structure.specs.States.{ListsState}
use Rattle.list_structure.specs.Standings.{status_of}
use Rattle.facility.specs.declared.command.Reply.{Reply}
use Rattle.facility.specs.declared.command.Reply.TheVariants as reply
use Rattle.facility.specs.States.{Held}
use Rattle.lock_manager.specs.declared.claim.Claim.{Claim}
use Rattle.lock_manager.specs.Buckets.{AreDistinct}
use Rattle.lock_manager.specs.Claims.{mode_in, without, joined}
use Rattle.lock_manager.specs.Managers.{Book, IsGiven, claims_of, held_by, page_told, after_page_release}
use Rattle.page_index.proofs.CallerLemmas.{same_name as same_id}
use Rattle.page_index.specs.Places.{AreApart}
use Rattle.member_pool.specs.Frames.{find_page, page_of}
use Rattle.member_pool.specs.Heads.{HeadState}
use Rattle.member_trans.specs.declared.fate.Owner.{Owner}
use Rattle.member_marks.specs.State.{MarksState, with_locks}
use Rattle.member_marks.specs.Claims.{has_page, has_page_room, may_enter_page, PageEntered, releasing_page, after_release_page}
use Rattle.member_marks.specs.Frames.{frame_in}
use Rattle.member_log.specs.Buffers.{LogBuffer}
use Rattle.member_needs.specs.Closing.{is_changed_at, is_page_changed}
use Rattle.member_effects.specs.Kept.{Kept}
use Rattle.member_effects.specs.Changes.{with_marks}
use Rattle.member_effects.specs.Closing.{page_released_after}
use Rattle.needs_law.specs.Lawful.{ReleasesPage}
use Rattle.page_protocol.specs.Page.{put}
use Rattle.page_protocol.specs.Moves.{World, Move, At, Lock, Unlock}
use Rattle.page_world.specs.Numbers.{page_number, page_at, AreNumbered as Numbers}
use Rattle.page_world.specs.Holdings.{Copy, Holdings, KeepsPages, with_facility}
use Rattle.page_world.specs.Tied.{Tied, Moved}
use Rattle.page_world.specs.Owners.{LocksMoves, UnlocksMoves}
use Rattle.page_world.specs.Losses.{StaysTied}
use Rattle.page_intents.specs.Stands.{AreBehind, copy_in, copy_of, IsUp, Goes}
use Rattle.page_intents.specs.Frames.{Begins}
use Rattle.page_intents.specs.Owners.{owned_by, ObtainGoes, GrantGoes, ReleaseGoes, LeavesPages, StayGoes}
use Rattle.page_intents.specs.Plain.{none_waits}
use Rattle.page_intents.proofs.Chains.{AtPages, at_one, at_none, numbered_on, plain_pages}
use Rattle.page_intents.proofs.Standing.{is_live_up}

-- ---- claims on other names
other_case : (c : Claim) (cs : List Claim) (n m : Name) (b : Bool) → same_name c.name n ≡ b → same_name n m ≡ false → mode_in (without cs n) m ≡ mode_in cs m → mode_in (if b then cs else c ∷ without cs n) m ≡ mode_in (c ∷ cs) m
other_case c cs n m true s e ih = let other : same_name c.name m ≡ false = ap (λ z. same_name z m) (same_equal c.name n s) ∙ e in grind (arith, other)
other_case c cs n m false s e ih = grind (arith, ih)

stays_other : (cs : List Claim) (n m : Name) → same_name n m ≡ false → mode_in (without cs n) m ≡ mode_in cs m
stays_other [] n m e = refl
stays_other (c ∷ cs) n m e = other_case c cs n m (same_name c.name n) refl e (stays_other cs n m e)

gone_case : (c : Claim) (cs : List Claim) (n : Name) (b : Bool) → same_name c.name n ≡ b → AreDistinct (c ∷ cs) → mode_in (without cs n) n ≡ None → mode_in (if b then cs else c ∷ without cs n) n ≡ None
gone_case c cs n true s d ih = ap (λ z. mode_in cs z) (sym (same_equal c.name n s)) ∙ d.0
gone_case c cs n false s d ih = ap (λ z. if z then Some c.mode else mode_in (without cs n) n) s ∙ ih

is_gone : (cs : List Claim) (n : Name) → AreDistinct cs → mode_in (without cs n) n ≡ None
is_gone [] n d = refl
is_gone (c ∷ cs) n d = gone_case c cs n (same_name c.name n) refl d (is_gone cs n d.1)

same_pages : (p q : PageId) → same_name (name.Page p) (name.Page q) ≡ same_page p q
unfolding same_name
same_pages p q = refl

pages_apart : (p q : PageId) → p ≢ q → same_name (name.Page p) (name.Page q) ≡ false
pages_apart p q ne = same_pages p q ∙ false_from_ne_true (same_page p q) (λ e. ne (same_id p q e))

-- ---- the page's claim is entered, and no other changes
has_given : (s : MarksState) (b : Book) (p : PageId) → IsGiven s.locks 0 (name.Page p) X b → (is_some (held_by b 0 (name.Page p)) ≡ true) × ((q : PageId) → p ≢ q → is_some (held_by b 0 (name.Page q)) ≡ has_page s q)
has_given s b p g = (
  ap is_some g.mode,
  λ q ne. ap is_some
      (sym (stays_other (claims_of b 0) (name.Page p) (name.Page q) (pages_apart p q ne)) ∙ ap (λ cs. mode_in cs (name.Page q)) g.others ∙ stays_other (claims_of s.locks 0) (name.Page p) (name.Page q) (pages_apart p q ne)),
)

-- ---- it is given up
first_set : (xs : List (List Claim)) (cs : List Claim) (n : Name) → is_some (mode_in (slice_index_or xs 0 []) n) ≡ true → slice_index_or (slice_set xs 0 cs) 0 [] ≡ cs
first_set [] cs n e = absurd (cc e)
first_set (x ∷ xs) cs n e = refl

claims_left : (b : Book) (n : Name) → is_some (held_by b 0 n) ≡ true → claims_of (after_page_release b n) 0 ≡ without (claims_of b 0) n
claims_left b n e = first_set b.holders (without (claims_of b 0) n) n e

has_released : (s : MarksState) (p : PageId) → has_page s p ≡ true → AreDistinct (claims_of s.locks 0)
    → (has_page (with_locks s (after_page_release s.locks (name.Page p))) p ≡ false) × ((q : PageId) → p ≢ q → has_page (with_locks s (after_page_release s.locks (name.Page p))) q ≡ has_page s q)
has_released s p has d =
    let left = claims_left s.locks (name.Page p) has in (
      ap (λ cs. is_some (mode_in cs (name.Page p))) left ∙ ap is_some (is_gone (claims_of s.locks 0) (name.Page p) d),
      λ q ne. ap (λ cs. is_some (mode_in cs (name.Page q))) left ∙ ap is_some (stays_other (claims_of s.locks 0) (name.Page p) (name.Page q) (pages_apart p q ne)),
    )

-- ---- the member is still up
up_owner : (g : Holdings) (forced : ℕ → ℕ) (k : Kept) (t : MarksState) (v : Held) (owner : ℕ → Option ℕ) → IsUp g forced k → KeepsPages g.facility v → t.member ≡ k.marks.member → t.heads ≡ k.marks.heads → t.log ≡ k.marks.log
    → ((n : ℕ) → has_page t (page_at n) ≡ true → owner n ≡ Some k.marks.member) → ((n : ℕ) → has_page t (page_at n) ≡ false → owner n ≢ Some k.marks.member) → IsUp (record g { facility = v; owner = owner }) forced (with_marks k t)
up_owner g forced k t v owner up keeps member heads log owns no_more = record {
  least = subst (λ z. 1 ≤ z) (sym member) up.least;
  among = subst (λ z. z ≤ v.lists.members) (sym member) (subst (λ z. k.marks.member ≤ z) (sym keeps.members) up.among);
  up = ap (λ z. status_of z t.member) keeps.statuses ∙ ap (status_of g.facility.lists.statuses) member ∙ up.up;
  log = ap forced member ∙ up.log ∙ sym (ap (λ (z : LogBuffer). z.stable) log);
  last = subst (λ z. t.log.last ≤ z) (sym keeps.counter) (subst (λ (z : LogBuffer). z.last ≤ g.facility.counter) (sym log) up.last);
  pending = subst (λ m. AreBehind (g.stable m) (g.written m) t.log.pending) (sym member) (subst (λ (z : LogBuffer). AreBehind (g.stable k.marks.member) (g.written k.marks.member) z.pending) (sym log) up.pending);
  apart = subst (λ (z : HeadState). AreApart page_of z.frames) (sym heads) up.apart;
  each = up.each ∙ sym (ap (λ (z : HeadState). length z.frames) heads);
  copies = λ n. ap (λ z. g.copies z n) member ∙ up.copies n ∙ sym (ap (λ (z : HeadState). copy_of z k.pages n) heads);
  owns = λ n e. owns n e ∙ ap Some (sym member);
  no_more = λ n e x. no_more n e (x ∙ ap Some member);
}

-- ---- what the pages don't know of
pub stay_goes : StaysTied → StayGoes
stay_goes law w g content forced k t v b left keeps =
    let moved = law w g content v b.tied keeps in
    record {
      moves = [];
      moved = moved;
      plain = tt;
      numbered = numbered_on w moved.world [] content forced at_none moved.run b.numbered;
      same = left.member;
      stands = up_owner g forced k t v g.owner b.up keeps left.member left.heads left.log (λ n e. b.up.owns n (sym (left.claims (page_at n)) ∙ e)) (λ n e. b.up.no_more n (sym (left.claims (page_at n)) ∙ e));
    }

-- ---- a lock that is granted
put_here : {A : Type 0} → (f : ℕ → A) (m j : ℕ) (x : A) → j ≡ m → put f m x j ≡ x
put_here f m j x e = cond-true (j == m) x (f j) (eq-eqb j m e)

put_there : {A : Type 0} → (f : ℕ → A) (m j : ℕ) (x : A) → j ≢ m → put f m x j ≡ f j
put_there f m j x ne = cond-false (j == m) x (f j) (ne_eqb j m ne)

-- by page: the one of this number, and all others
by_page : Numbers → (p : PageId) (P : ℕ → PageId → Type 0) → P (page_number p) p → ((n : ℕ) → n ≢ page_number p → p ≢ page_at n → P n (page_at n)) → (n : ℕ) → P n (page_at n)
by_page numbers p P here there n = elim (cases_eq n (page_number p)) [
  | inl e ↦ subst (λ z. P z (page_at z)) (sym e) (subst (λ z. P (page_number p) z) (sym (numbers.named p)) here)
  | inr ne ↦ there n ne (λ z. ne (sym (numbers.numbered n) ∙ ap page_number (sym z)))
]

-- nobody had it, or this member
takes : Numbers → LocksMoves → StaysTied → (w : World) (g : Holdings) (content : ℕ → ℕ → List ℕ) (forced : ℕ → ℕ) (k : Kept) (p : PageId) (v : Held) → Begins w g content forced k → KeepsPages g.facility v
    → (has_page k.marks p ≡ false → g.owner (page_number p) ≡ None) → (moves : List Move) × AtPages moves × Moved w moves (owned_by g v (page_number p) (Some k.marks.member)) content
takes numbers law stay w g content forced k p v b keeps free = elim (cases_Bool (has_page k.marks p)) [
  | inl has ↦ ([], at_none, subst (λ (o : ℕ → Option ℕ). Moved w [] (record g { facility = v; owner = o }) content) (λ i n. same has n i) (stay w g content v b.tied keeps))
  | inr none ↦ (At (page_number p) (Lock k.marks.member) ∷ [], at_one (page_number p) (Lock k.marks.member), law w g content k.marks.member (page_number p) v b.tied (is_live_up g forced k b.up) (free none) keeps)
]
  where
    same : has_page k.marks p ≡ true → (n : ℕ) → g.owner n ≡ put g.owner (page_number p) (Some k.marks.member) n
    same has n = elim (cases_eq n (page_number p)) [
      | inl e ↦ ap g.owner e ∙ b.up.owns (page_number p) (ap (has_page k.marks) (numbers.named p) ∙ has) ∙ sym (put_here g.owner (page_number p) n (Some k.marks.member) e)
      | inr ne ↦ sym (put_there g.owner (page_number p) n (Some k.marks.member) ne)
    ]

granted_goes : Numbers → LocksMoves → StaysTied → (w : World) (g : Holdings) (content : ℕ → ℕ → List ℕ) (forced : ℕ → ℕ) (k : Kept) (t : MarksState) (p : PageId) (v : Held) (x : Bool) → may_enter_page k.marks p ≡ x → may_enter_page k.marks p ≡ true
    → Begins w g content forced k → KeepsPages g.facility v → (has_page k.marks p ≡ false → g.owner (page_number p) ≡ None) → PageEntered x k.marks p t → Goes w content forced (owned_by g v (page_number p) (Some k.marks.member)) k.marks (with_marks k t)
granted_goes numbers law stay w g content forced k t p v false e room b keeps free entered = absurd (both_ways (may_enter_page k.marks p) e room)
granted_goes numbers law stay w g content forced k t p v true e room b keeps free entered =
    let m = k.marks.member in
    let taken = takes numbers law stay w g content forced k p v b keeps free in
    let has = has_given k.marks t.locks p entered.0 in
    record {
      moves = taken.0;
      moved = taken.2;
      plain = plain_pages (none_waits t.log.pending) taken.0 taken.1;
      numbered = numbered_on w taken.2.world taken.0 content forced taken.1 taken.2.run b.numbered;
      same = ap (λ (z : MarksState). z.member) entered.1;
      stands = up_owner g forced k t v (put g.owner (page_number p) (Some m)) b.up keeps (ap (λ (z : MarksState). z.member) entered.1) (ap (λ (z : MarksState). z.heads) entered.1) (ap (λ (z : MarksState). z.log) entered.1)
          (by_page numbers p (λ n q. has_page t q ≡ true → put g.owner (page_number p) (Some m) n ≡ Some m) (λ _. put_here g.owner (page_number p) (page_number p) (Some m) refl)
          (λ n ne away x. put_there g.owner (page_number p) n (Some m) ne ∙ b.up.owns n (sym (has.1 (page_at n) away) ∙ x)))
          (by_page numbers p (λ n q. has_page t q ≡ false → put g.owner (page_number p) (Some m) n ≢ Some m) (λ x _. both_ways (has_page t p) x has.0)
          (λ n ne away x y. b.up.no_more n (sym (has.1 (page_at n) away) ∙ x) (sym (put_there g.owner (page_number p) n (Some m) ne) ∙ y)));
    }

pub obtain_goes : Numbers → LocksMoves → StaysTied → ObtainGoes
obtain_goes numbers law stay w g content forced k t o p mode version place v b may free gives settles =
    granted_goes numbers law stay w g content forced k t p v (may_enter_page k.marks p) refl may.room b
    (record { directory = ap (λ (z : Held). z.directory) gives.1; counter = ap (λ (z : Held). z.counter) gives.1; members = ap (λ (z : Held). z.lists.members) gives.1; statuses = ap (λ (z : Held). z.lists.statuses) gives.1 }) free settles

pub grant_goes : Numbers → LocksMoves → StaysTied → GrantGoes
grant_goes numbers law stay w g content forced k t o p mode slot version place v b may free gives settles =
    granted_goes numbers law stay w g content forced k t p v (may_enter_page k.marks p) refl may.room b
    (record { directory = ap (λ (z : Held). z.directory) gives.2; counter = ap (λ (z : Held). z.counter) gives.2; members = ap (λ (z : Held). z.lists.members) gives.2; statuses = ap (λ (z : Held). z.lists.statuses) gives.2 }) free settles

-- ---- a lock that is given up
was_claimed : (b : Bool) (x y : Name × Interest) → (if b then Some x else None) ≡ Some y → b ≡ true
was_claimed true x y e = refl
was_claimed false x y e = absurd (cc e)

unmarked : (k : Kept) (o : Option ℕ) → is_changed_at k.marks o ≡ false → (copy_in k.marks.heads k.pages o).marked ≡ false
unmarked k None e = refl
unmarked k (Some at) e = e

pub release_goes : Numbers → UnlocksMoves → ReleaseGoes
release_goes numbers law w g content forced k p out answer v b distinct lawful r =
    let m = k.marks.member in
    let n = page_number p in
    let claimed = was_claimed (has_page k.marks p) (name.Page p, page_told k.marks.locks (name.Page p)) lawful.told lawful.next in
    let t = with_locks k.marks (after_page_release k.marks.locks (name.Page p)) in
    let is : page_released_after k.marks p answer ≡ t = ap (page_released_after k.marks p) r.0 ∙ cond-true (has_page k.marks p) t k.marks claimed in
    let has = has_released k.marks p claimed distinct in
    let keeps : KeepsPages g.facility v = record { directory = ap (λ (z : Held). z.directory) r.2; counter = ap (λ (z : Held). z.counter) r.2; members = ap (λ (z : Held). z.lists.members) r.2; statuses = ap (λ (z : Held). z.lists.statuses) r.2 } in
    let clean : (g.copies m n).marked ≡ false = ap (λ (c : Copy). c.marked) (b.up.copies n) ∙ unmarked k (find_page k.marks.heads.frames (page_at n)) (ap (λ z. is_changed_at k.marks (find_page k.marks.heads.frames z)) (numbers.named p) ∙ lawful.unchanged) in
    let moved = law w g content m n v b.tied b.up.least b.up.among b.up.up (b.up.owns n (ap (has_page k.marks) (numbers.named p) ∙ claimed)) clean keeps in
    subst (λ (z : MarksState). Goes w content forced (owned_by g v n None) k.marks (with_marks k z)) (sym is)
    (record {
      moves = At n (Unlock m) ∷ [];
      moved = moved;
      plain = (refl, tt);
      numbered = numbered_on w moved.world (At n (Unlock m) ∷ []) content forced (at_one n (Unlock m)) moved.run b.numbered;
      same = refl;
      stands = up_owner g forced k t v (put g.owner n None) b.up keeps refl refl refl
          (by_page numbers p (λ j q. has_page t q ≡ true → put g.owner n None j ≡ Some m) (λ x. absurd (both_ways (has_page t p) has.0 x))
          (λ j ne away x. put_there g.owner n j None ne ∙ b.up.owns j (sym (has.1 (page_at j) away) ∙ x)))
          (by_page numbers p (λ j q. has_page t q ≡ false → put g.owner n None j ≢ Some m) (λ x y. none_some (sym (put_here g.owner n n None refl) ∙ y))
          (λ j ne away x y. b.up.no_more j (sym (has.1 (page_at j) away) ∙ x) (sym (put_there g.owner n j None ne) ∙ y)));
    })
  where
    none_some : ◌≡◌ {A = Option ℕ} None (Some k.marks.member) → ⊥
    none_some e = none-some k.marks.member e
