-- Locks that are given up, records that are freed, and transactions that have ended.
use Rattle.std.proofs.Common.{◌≡◌, ℕ, ◌+◌, ◌≤◌, ◌<◌, refl, sym, ◌∙◌, ap, subst, arith, Bool, true, false, inl, inr, List, [], ◌∷◌, length, Option, Some, None}
use Rattle.std.specs.Prelude.{◌≢◌, ◌==◌, ◌&&◌, ◌||◌, nat_le, nat_lt, is_none, is_some, if◌then◌else◌}
use Rattle.std.proofs.lemmas.Bool.{cond-true, cond-false, cases_eq, both_ways, and_parts, leb-true, eq-eqb, ne_eqb}
use Rattle.ds_base.specs.declared.names.PageId.{PageId}
use Rattle.ds_base.specs.declared.names.TranId.{TranId}
use Rattle.ds_model.specs.declared.lock.Name.{Name}
use Rattle.ds_model.specs.declared.lock.Name.TheVariants as name
use Rattle.lock_names.specs.declared.mode.Mode.{Mode}
use Rattle.lock_names.specs.declared.mode.Interest.{Interest}
use Rattle.lock_names.specs.Modes.{class_of}
use Rattle.lock_names.specs.Entries.{entry_number}
use Rattle.lock_structure.specs.Locks.{Locks, IsReleased}
use Rattle.list_structure.specs.declared.standing.MemberStatus.{MemberStatus}
use Rattle.list_structure.specs.declared.standing.MemberStatus.TheVariants.{Up}
use Rattle.list_structure.specs.Standings.{status_of, is_live}
use Rattle.list_structure.specs.States.{ListsState}
use Rattle.lock_manager.specs.Managers.{Book, slots, release_told, after_release, after_page_release, page_told, place_in, postponed_told, after_postponed_release, ended, dropped, with_claims}
use Rattle.facility.specs.declared.command.Reply.{Reply}
use Rattle.facility.specs.declared.command.Reply.TheVariants as reply
use Rattle.facility.specs.States.{Held, ring}
use Rattle.facility.specs.LockCommands.{ReleasesLock, PurgesLock}
use Rattle.member_trans.specs.declared.fate.Owner.{Owner}
use Rattle.member_trans.specs.declared.fate.Owner.TheVariants as owner
use Rattle.member_trans.specs.Trans.{after_end}
use Rattle.member_marks.specs.State.{MarksState, agents_of, with_locks}
use Rattle.member_marks.specs.Claims.{is_agent, is_claimed, has_page, lock_place, releasing, releasing_page, rollback_releasing, after_release_of, after_release_page, after_end_of, slot_released, rollback_released, noted_released}
use Rattle.member_effects.specs.Closing.{released_after, page_released_after}
use Rattle.lock_protocol.specs.Machine.{World, backs}
use Rattle.lock_protocol.specs.Moves.{GiveUp, Purge, Release}
use Rattle.lock_world.specs.Books.{IsBook, NobodyHolds, HasLeft, IsFreed, ReleaseFrees, PageFrees, EndLeaves, RollbackFrees, RollbackEnds}
use Rattle.lock_world.specs.Claims.{Leaves, GivesUpMoves}
use Rattle.lock_world.specs.Names.{on_name, PurgesMoves, Releases, KeepsForAll, ReleasesMoves}
use Rattle.lock_world.specs.Numbers.{AreNumbered, number, name_at}
use Rattle.lock_world.specs.Standing.{StaysTied}
use Rattle.lock_world.specs.Tied.{Claims, ClaimTied, is_own, Tied, Moved}
use Rattle.lock_world.specs.Views.{rollback_owner, claim_in, is_live_in, entry_in}
use Rattle.lock_intents.specs.Stands.{Knows, Leads, IsUp, Goes}
use Rattle.lock_intents.specs.Intents.{IsAgent, ReleaseGoes, PageGoes, PurgeGoes, EndGoes}
use Rattle.lock_intents.proofs.Stands.{SameClaims, stay_claims, Keeps, keeps_itself, keeps_as, still_up, Quiet, quiet_goes, relabelled}

-- what the crates below say
pub record Facts : Type 0 where
  pub numbers : AreNumbered
  pub stay : StaysTied
  pub gives_up : GivesUpMoves
  pub release : ReleasesMoves
  pub purge : PurgesMoves
  pub nobody : NobodyHolds
  pub frees : ReleaseFrees
  pub page_frees : PageFrees
  pub ends : EndLeaves
  pub rollback_frees : RollbackFrees
  pub rollback_ends : RollbackEnds

-- ---- an owner has given claims up
abbrev left_of : Claims → ℕ → ℕ → ℕ → ℕ → Bool
left_of left m owner o c = (o == owner) && is_none (left m o c)

gone_as : (held left : Claims) (s t : MarksState) (owner : ℕ) → Knows held s → Leads held left s t → HasLeft s.locks t.locks owner → (o c : ℕ) → left s.member o c ≡ (if left_of left s.member owner o c then None else held s.member o c)
gone_as held left s t owner knows leads h o c = elim (cases_eq o owner) [
  | inl e ↦ subst (λ z. left s.member z c ≡ (if left_of left s.member owner z c then None else held s.member z c)) (sym e) own
  | inr ne ↦ (leads.own o c ∙ h.others o c ne ∙ sym (knows o c)) ∙ sym (ap (λ (z : Bool). if z && is_none (left s.member o c) then None else held s.member o c) (ne_eqb o owner ne))
]
  where
    own : left s.member owner c ≡ (if left_of left s.member owner owner c then None else held s.member owner c)
    own =
        leads.own owner c ∙ h.own c
        ∙ ap (λ (z : Option Mode). if is_none z then None else claim_in s.locks owner c) (sym (leads.own owner c))
        ∙ ap (λ (z : Option Mode). if is_none (left s.member owner c) then None else z) (sym (knows owner c))
        ∙ ap (λ (z : Bool). if z && is_none (left s.member owner c) then None else held s.member owner c) (sym (eq-eqb owner owner refl))

live_up : (s : MemberStatus) → s ≡ Up → is_live s ≡ true
live_up s e = subst (λ z. is_live z ≡ true) (sym e) refl

release_as : Facts → (w : World) (f g : Held) (held left : Claims) (s t : MarksState) (owner : ℕ) (n : Name) (keeps : Interest) → Tied w f.locks f.lists held → IsUp f s → Knows held s → Leads held left s t
    → HasLeft s.locks t.locks owner → IsFreed t.locks n keeps → Keeps s t → IsReleased f.locks s.member n keeps g.locks → g ≡ record f { locks = g.locks; lists = ring f.lists } → Goes w f g left s t
release_as facts w f g held left s t owner n keeps tied up knows leads gone freed kept is same =
    let which = left_of left s.member owner in
    let moves = GiveUp s.member (λ o c. which o c || (c == number n)) ∷ Release s.member owner (number n) keeps ∷ [] in
    let lists : g.lists ≡ ring f.lists = ap (λ (z : Held). z.lists) same in
    record {
      moves = moves;
      own = (refl, (refl, tt));
      moved = relabelled facts.stay w moves f.locks g.locks f.lists g.lists left left (facts.release w f.locks g.locks f.lists held left s.member owner n keeps which tied up.member up.among (live_up (status_of f.lists.statuses s.member) up.up) releases all is)
          (ap (λ (z : ListsState). z.cells) lists) (ap (λ (z : ListsState). z.statuses) lists) (ap (λ (z : ListsState). z.members) lists) (λ k o c. refl);
      same = kept.member;
      stands = still_up f g s t up kept (ap (λ (z : ListsState). z.members) lists) (ap (λ (z : ListsState). z.statuses) lists) is.same;
    }
  where
    releases : Releases held left s.member n (left_of left s.member owner)
    releases = record { others = leads.others; own = gone_as held left s t owner knows leads gone; all = λ o. leads.own o (number n) ∙ freed.free o }

    entries : t.locks.entries ≡ length f.locks.entries
    entries = kept.entries ∙ up.size

    all : KeepsForAll f.locks left s.member n keeps
    all o c x ne same_entry has = freed.keeps o c x
        (ap (λ z. entry_number (name_at c) z) entries ∙ same_entry ∙ ap (λ z. entry_number z (length f.locks.entries)) (facts.numbers.named n) ∙ sym (ap (λ z. entry_number n z) entries))
        (sym (leads.own o c) ∙ has)

-- ---- which owner
some_told : (x : Name × Interest) → None ≡ Some x → ⊥
some_told x e = cc

done_as : (s t : MarksState) (o : Owner) (answer : Reply) → t ≡ released_after s o answer → answer ≡ reply.Done → t ≡ after_release_of s o
done_as s t o answer e d = e ∙ ap (λ z. released_after s o z) d

slot_told : (s : MarksState) (slot : ℕ) (n : Name) (keeps : Interest) → releasing s (owner.Slot slot) ≡ Some (n, keeps) → is_agent s slot ≡ true → release_told s.locks slot ≡ Some (n, keeps)
slot_told s slot n keeps e a = sym (cond-true (nat_le slot (agents_of s)) (release_told s.locks slot) None (and_parts (nat_lt 0 slot) (nat_le slot (agents_of s)) a).1) ∙ e

slot_after : (s t : MarksState) (slot : ℕ) → t ≡ slot_released s slot → is_agent s slot ≡ true → t ≡ with_locks (noted_released s (owner.Slot slot)) (after_release s.locks slot)
slot_after s t slot e a = e ∙ cond-true (is_agent s slot) (with_locks (noted_released s (owner.Slot slot)) (after_release s.locks slot)) s a

agent_below : (s : MarksState) (slot : ℕ) → is_agent s slot ≡ true → slot < slots s.locks
agent_below s slot a = let p = and_parts (nat_lt 0 slot) (nat_le slot (agents_of s)) a in let le = leb-true slot (agents_of s) p.1 in omega (arith, le)

locks_as : (s t u : MarksState) (P : Book → Type 0) → t ≡ u → P u.locks → P t.locks
locks_as s t u P e h = subst (λ (z : MarksState). P z.locks) (sym e) h

-- a rollback, by its place
rollback_goes : Facts → (w : World) (f g : Held) (held left : Claims) (s t : MarksState) (id : ℕ) (n : Name) (keeps : Interest) → Tied w f.locks f.lists held → IsUp f s → Knows held s → Leads held left s t
    → t ≡ rollback_released s id → IsReleased f.locks s.member n keeps g.locks → g ≡ record f { locks = g.locks; lists = ring f.lists } → rollback_releasing s id ≡ Some (n, keeps) → (p : Option ℕ) → lock_place s id ≡ p → Goes w f g left s t
rollback_goes facts w f g held left s t id n keeps tied up knows leads e is same told None place = (let said : Name × Interest = (n, keeps) in absurd (some_told said (ap (λ z. postponed_told s.locks z) (sym place) ∙ told)))
rollback_goes facts w f g held left s t id n keeps tied up knows leads e is same told (Some k) place =
    let said : release_told s.locks (slots s.locks + k) ≡ Some (n, keeps) = ap (λ z. postponed_told s.locks z) (sym place) ∙ told in
    let facts_of = facts.rollback_frees s.locks id k n keeps up.book place said in
    let after : t ≡ with_locks (noted_released s (owner.Rollback id)) (after_release s.locks (slots s.locks + k)) =
    e ∙ cond-true (is_some (rollback_releasing s id)) (with_locks (noted_released s (owner.Rollback id)) (after_postponed_release s.locks (lock_place s id))) s (ap (λ z. is_some z) told)
    ∙ ap (λ z. with_locks (noted_released s (owner.Rollback id)) (after_postponed_release s.locks z)) place
    ∙ ap (λ z. with_locks (noted_released s (owner.Rollback id)) z) (cond-true (is_some (release_told s.locks (slots s.locks + k))) (after_release s.locks (slots s.locks + k)) (ended_at k) (ap (λ z. is_some z) said)) in
    release_as facts w f g held left s t (rollback_owner id) n keeps tied up knows leads
    (locks_as s t (with_locks (noted_released s (owner.Rollback id)) (after_release s.locks (slots s.locks + k))) (λ z. HasLeft s.locks z (rollback_owner id)) after facts_of.0)
    (locks_as s t (with_locks (noted_released s (owner.Rollback id)) (after_release s.locks (slots s.locks + k))) (λ z. IsFreed z n keeps) after facts_of.1)
    (keeps_as s t (with_locks (noted_released s (owner.Rollback id)) (after_release s.locks (slots s.locks + k))) after (record { member = refl; entries = refl; book = facts_of.0.stands })) is same
  where
    ended_at : ℕ → Book
    ended_at k = ended (after_release s.locks (slots s.locks + k)) k

pub release_goes : Facts → ReleaseGoes
release_goes facts w f g held left s t (owner.Slot slot) n keeps answer tied up knows agent told gives after leads =
    let u = with_locks (noted_released s (owner.Slot slot)) (after_release s.locks slot) in
    let e = slot_after s t slot (done_as s t (owner.Slot slot) answer after gives.0) agent in
    let facts_of = facts.frees s.locks slot n keeps up.book (agent_below s slot agent) (slot_told s slot n keeps told agent) in
    release_as facts w f g held left s t slot n keeps tied up knows leads
    (locks_as s t u (λ z. HasLeft s.locks z slot) e facts_of.0) (locks_as s t u (λ z. IsFreed z n keeps) e facts_of.1) (keeps_as s t u e (record { member = refl; entries = refl; book = facts_of.0.stands })) gives.1 gives.2
release_goes facts w f g held left s t (owner.Rollback id) n keeps answer tied up knows agent told gives after leads =
    rollback_goes facts w f g held left s t id n keeps tied up knows leads (done_as s t (owner.Rollback id) answer after gives.0) gives.1 gives.2 told (lock_place s id) refl

-- ---- a page
page_alone : Facts → (w : World) (f : Held) (held : Claims) (s : MarksState) (p : PageId) → Tied w f.locks f.lists held → IsUp f s → Knows held s → (o : ℕ) → o ≢ 0 → claim_in s.locks o (number (name.Page p)) ≡ None
page_alone facts w f held s p tied up knows o ne =
    sym (knows o (number (name.Page p))) ∙ none_of (w.claims s.member o (number (name.Page p))) (held s.member o (number (name.Page p)))
    (tied.own s.member o (number (name.Page p)) (ap is_own (facts.numbers.named (name.Page p))) ne) known
  where
    known : (m : Mode) → held s.member o (number (name.Page p)) ≡ Some m → w.claims s.member o (number (name.Page p)) ≡ Some m
    known m e = subst (λ z. ClaimTied (w.claims s.member o (number (name.Page p))) z (w.records s.member (number (name.Page p)))) e
        (tied.claims s.member o (number (name.Page p)) (tied.live s.member up.member.0 up.among ∙ live_up (status_of f.lists.statuses s.member) up.up))

    none_of : (c x : Option Mode) → c ≡ None → ((m : Mode) → x ≡ Some m → c ≡ Some m) → x ≡ None
    none_of c None e h = refl
    none_of c (Some m) e h = absurd (never c m e (h m refl))
      where
        never : (c : Option Mode) (m : Mode) → c ≡ None → c ≡ Some m → ⊥
        never c m a b = cc

has_told : (s : MarksState) (p : PageId) (n : Name) (keeps : Interest) → releasing_page s p ≡ Some (n, keeps) → (has_page s p ≡ true) × (name.Page p ≡ n) × (page_told s.locks (name.Page p) ≡ keeps)
has_told s p n keeps e = by (has_page s p) refl e
  where
    here : Name × Interest
    here = (name.Page p, page_told s.locks (name.Page p))

    said : Name × Interest
    said = (n, keeps)

    same : (a b : Name × Interest) → Some a ≡ Some b → a ≡ b
    same a b h = cc

    by : (b : Bool) → has_page s p ≡ b → (if b then Some here else None) ≡ Some said → (has_page s p ≡ true) × (name.Page p ≡ n) × (page_told s.locks (name.Page p) ≡ keeps)
    by true t h = let pair = same here said h in (t, ap (λ (z : Name × Interest). z.0) pair, ap (λ (z : Name × Interest). z.1) pair)
    by false f h = absurd (some_told said h)

pub page_goes : Facts → PageGoes
page_goes facts w f g held left s t p n keeps answer tied up knows told gives after leads =
    let h = has_told s p n keeps told in
    let u = with_locks s (after_page_release s.locks (name.Page p)) in
    let e : t ≡ u = after ∙ ap (λ z. page_released_after s p z) gives.0 ∙ cond-true (has_page s p) u s h.0 in
    let facts_of = facts.page_frees s.locks (name.Page p) up.book (page_alone facts w f held s p tied up knows) in
    release_as facts w f g held left s t 0 n keeps tied up knows leads
    (locks_as s t u (λ z. HasLeft s.locks z 0) e facts_of.0)
    (locks_as s t u (λ z. IsFreed z n keeps) e (subst (λ z. IsFreed u.locks z keeps) h.1 (subst (λ z. IsFreed u.locks (name.Page p) z) h.2 facts_of.1)))
    (keeps_as s t u e (record { member = refl; entries = refl; book = facts_of.0.stands })) gives.1 gives.2

-- ---- a record is freed
pub purge_goes : Facts → PurgeGoes
purge_goes facts w f g held left s n answer tied up knows unclaimed gives leads =
    let moves = GiveUp s.member (on_name (number n)) ∷ Purge s.member (number n) ∷ [] in
    let lists : g.lists ≡ ring f.lists = ap (λ (z : Held). z.lists) gives.2 in
    record {
      moves = moves;
      own = (refl, (refl, tt));
      moved = relabelled facts.stay w moves f.locks g.locks f.lists g.lists held left (facts.purge w f.locks g.locks f.lists held s.member n tied up.member (λ o. knows o (number n) ∙ facts.nobody s.locks n unclaimed o) gives.1)
          (ap (λ (z : ListsState). z.cells) lists) (ap (λ (z : ListsState). z.statuses) lists) (ap (λ (z : ListsState). z.members) lists) (stay_claims held left s s knows leads (λ o c. refl));
      same = refl;
      stands = still_up f g s s up (keeps_itself s up.book) (ap (λ (z : ListsState). z.members) lists) (ap (λ (z : ListsState). z.statuses) lists) (ap length gives.1.entries);
    }

-- ---- a transaction has ended
end_as : Facts → (w : World) (f g : Held) (held left : Claims) (s t : MarksState) (owner : ℕ) → Tied w f.locks f.lists held → IsUp f s → Knows held s → Leads held left s t → HasLeft s.locks t.locks owner → Keeps s t → Quiet f g → Goes w f g left s t
end_as facts w f g held left s t owner tied up knows leads gone kept q =
    let which = left_of left s.member owner in
    let moves = GiveUp s.member which ∷ [] in
    record {
      moves = moves;
      own = (refl, tt);
      moved = subst (λ (z : Locks). Moved w moves f.locks z g.lists left) (sym q.locks) (relabelled facts.stay w moves f.locks f.locks f.lists g.lists left left
          (facts.gives_up w f.locks f.lists held left s.member which tied (record { others = leads.others; own = gone_as held left s t owner knows leads gone })) q.cells q.statuses q.members (λ k o c. refl));
      same = kept.member;
      stands = still_up f g s t up kept q.members q.statuses (ap (λ (z : Locks). length z.entries) q.locks);
    }

ended_goes : Facts → (w : World) (f g : Held) (held left : Claims) (s t : MarksState) (o : Owner) → Tied w f.locks f.lists held → IsUp f s → Knows held s → Leads held left s t → t ≡ after_end_of s o → Quiet f g → Goes w f g left s t
ended_goes facts w f g held left s t (owner.Slot slot) tied up knows leads e q = by (is_agent s slot) refl e
  where
    by : (b : Bool) → is_agent s slot ≡ b → t ≡ (if b then record s { locks = with_claims s.locks slot []; trans = after_end s.trans (owner.Slot slot) } else s) → Goes w f g left s t
    by true agent h =
        let u : MarksState = record s { locks = with_claims s.locks slot []; trans = after_end s.trans (owner.Slot slot) } in
        let left_all = facts.ends s.locks slot up.book (agent_below s slot agent) in
        end_as facts w f g held left s t slot tied up knows leads (locks_as s t u (λ z. HasLeft s.locks z slot) h left_all.0) (keeps_as s t u h (record { member = refl; entries = refl; book = left_all.0.stands })) q
    by false other h = quiet_goes facts.stay w f g held left s t tied up knows leads q (λ o c. ap (λ (z : MarksState). claim_in z.locks o c) h) (keeps_as s t s h (keeps_itself s up.book))
ended_goes facts w f g held left s t (owner.Rollback id) tied up knows leads e q = by (lock_place s id) refl e
  where
    by : (p : Option ℕ) → lock_place s id ≡ p → t ≡ record s { locks = dropped s.locks p; trans = after_end s.trans (owner.Rollback id) } → Goes w f g left s t
    by None place h = quiet_goes facts.stay w f g held left s t tied up knows leads q (λ o c. ap (λ (z : MarksState). claim_in z.locks o c) h) (keeps_as s t (record s { locks = s.locks; trans = after_end s.trans (owner.Rollback id) }) h (record { member = refl; entries = refl; book = up.book }))
    by (Some k) place h =
        let u : MarksState = record s { locks = dropped s.locks (Some k); trans = after_end s.trans (owner.Rollback id) } in
        let left_all = facts.rollback_ends s.locks id k up.book place in
        end_as facts w f g held left s t (rollback_owner id) tied up knows leads (locks_as s t u (λ z. HasLeft s.locks z (rollback_owner id)) h left_all.0) (keeps_as s t u h (record { member = refl; entries = refl; book = left_all.0.stands })) q

pub end_goes : Facts → EndGoes
end_goes facts w f g held left s t o tran answer tied up knows e gives leads = ended_goes facts w f g held left s t o tied up knows leads e
    (record { locks = ap (λ (z : Held). z.locks) gives.1; cells = ap (λ (z : Held). z.lists.cells) gives.1; statuses = ap (λ (z : Held). z.lists.statuses) gives.1; members = ap (λ (z : Held). z.lists.members) gives.1 })
