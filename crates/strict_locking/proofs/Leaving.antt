-- Locks that are given up, and transactions that end: all but that owner keep theirs.
use Rattle.std.proofs.Common.{◌≡◌, ℕ, ◌+◌, ◌≤◌, refl, sym, ◌∙◌, ap, subst, arith, Bool, true, false, [], Option, Some, None}
use Rattle.std.specs.Prelude.{◌≢◌, ◌-◌, ◌==◌, ◌&&◌, nat_le, nat_lt, is_some, slice_index_or, if◌then◌else◌}
use Rattle.std.proofs.lemmas.Bool.{and_parts, both_ways, cond-true, cond-false, leb-true, ne_eqb}
use Rattle.std.proofs.lemmas.List.{get_or-set_other}
use Rattle.ds_base.specs.declared.names.PageId.{PageId}
use Rattle.ds_model.specs.Rows.{Spot}
use Rattle.ds_model.specs.declared.lock.Name.{Name}
use Rattle.ds_model.specs.declared.lock.Name.TheVariants as name
use Rattle.lock_names.specs.declared.mode.Interest.{Interest}
use Rattle.lock_names.specs.declared.mode.Mode.TheVariants.{IX, X}
use Rattle.lock_manager.specs.Claims.{mode_in, without}
use Rattle.lock_manager.specs.Managers.{Book, after_page_release, after_postponed_release, after_release, claims_of, dropped, ended, place_in, postponed_told, release_told, slots, with_claims}
use Rattle.facility.specs.declared.command.Reply.{Reply}
use Rattle.facility.specs.declared.command.Reply.TheVariants as reply
use Rattle.member_trans.specs.declared.fate.Owner.{Owner}
use Rattle.member_trans.specs.declared.fate.Owner.TheVariants as owner
use Rattle.member_trans.specs.declared.fate.Stage.{Stage}
use Rattle.member_trans.specs.declared.fate.Stage.TheVariants as stage
use Rattle.member_trans.specs.Trans.{TransState, free_tran, is_undoing, place_of, rollback_ended, slot_ended, tran_at, tran_of as tran_in, was_postponed, with_released}
use Rattle.member_marks.specs.State.{MarksState, agents_of, slot_tran, tran_of, with_locks}
use Rattle.member_marks.specs.Claims.{after_end_of, after_release_of, after_release_page, has_page, is_agent, lock_place, noted_released, releasing, rollback_over, rollback_releasing, rollback_released, slot_released}
use Rattle.member_effects.specs.Closing.{ended_after, page_released_after, released_after}
use Rattle.needs_law.specs.Lawful.{MayEnd}
use Rattle.marks_law.specs.Transactions.{GoesOn, TransStay, has_tran}
use Rattle.marks_law.proofs.Found.{first_at, from_list, to_list, undoes_left}
use Rattle.marks_law.proofs.Staying.{goes_itself, stay_of}
use Rattle.lock_protocol.specs.Machine.{Covers}
use Rattle.lock_world.proofs.Distinct.{distinct_without}
use Rattle.lock_world.proofs.Owners.{slot_set, slot_stands}
use Rattle.lock_world.specs.Books.{EndLeaves, HasLeft, IsBook, ReleaseFrees, RollbackEnds, RollbackFrees}
use Rattle.lock_world.specs.Numbers.{name_at}
use Rattle.lock_world.specs.Rollbacks.{row_of, space_of}
use Rattle.lock_world.specs.Views.{claim_in, claims_by, rollback_owner}
use Rattle.strict_locking.specs.Keeping.{KeepsAll, KeepsOpen}
use Rattle.strict_locking.specs.Rows.{HasLocked, IsTaken, is_over, name_of, number_of}
use Rattle.strict_locking.proofs.Keeping.{all_if, all_itself, open_all, open_as, renamed}
use Rattle.strict_locking.proofs.Taking.{agent_below}

-- what the crates below say
pub record Facts : Type 0 where
  pub release : ReleaseFrees
  pub end : EndLeaves
  pub rollback_release : RollbackFrees
  pub rollback_end : RollbackEnds

-- ---- an owner that is over, and all others
record Leaves (s t : MarksState) (gone : ℕ) : Type 0 where
  pub book : IsBook t.locks
  pub agents : t.locks.agents ≡ s.locks.agents
  pub slots : (slot : ℕ) → slot ≢ gone → has_tran (slot_tran s slot).stage ≡ true → GoesOn (slot_tran s slot) (slot_tran t slot)
  pub rollbacks : (id : ℕ) → rollback_owner id ≢ gone → is_undoing (tran_of s (owner.Rollback id)).stage ≡ true → is_undoing (tran_of t (owner.Rollback id)).stage ≡ true
  pub claims : (o c : ℕ) → o ≢ gone → claim_in t.locks o c ≡ claim_in s.locks o c

locked_other : (s t : MarksState) (gone : ℕ) → Leaves s t gone → (id : ℕ) (spot : Spot) → id ≢ 0 → (o : Owner) → number_of o ≢ gone → IsTaken s o → name_of s o ≡ id
    → Covers (claim_in s.locks (number_of o) (space_of spot)) IX → Covers (claim_in s.locks (number_of o) (row_of spot)) X → HasLocked t id spot
locked_other s t gone leaves id spot ne (owner.Slot slot) other taken named space row =
    let goes = leaves.slots slot other taken.1 in record {
      by = owner.Slot slot;
      taken = (subst (λ (z : ℕ). (nat_lt 0 slot && nat_le slot z) ≡ true) (sym leaves.agents) taken.0, goes.there);
      named = renamed (slot_tran s slot).first (slot_tran t slot).first id goes.named named ne;
      space = subst (λ z. Covers z IX) (sym (leaves.claims slot (space_of spot) other)) space;
      row = subst (λ z. Covers z X) (sym (leaves.claims slot (row_of spot) other)) row;
    }
locked_other s t gone leaves id spot ne (owner.Rollback old) other taken named space row = record {
  by = owner.Rollback old;
  taken = leaves.rollbacks old other taken;
  named = named;
  space = subst (λ z. Covers z IX) (sym (leaves.claims (rollback_owner old) (space_of spot) other)) space;
  row = subst (λ z. Covers z X) (sym (leaves.claims (rollback_owner old) (row_of spot) other)) row;
}

-- whoever isn't over is another
abbrev pub IsOwner : MarksState → Owner → Type 0
IsOwner s (owner.Slot slot) = is_agent s slot ≡ true
IsOwner s (owner.Rollback id) = Unit {0}

slot_apart : (slot id agents : ℕ) → slot ≤ agents → agents ≤ 16 → slot ≡ rollback_owner id → ⊥
slot_apart slot id agents le few e = omega (arith, le, few, e)

agent_within : (s : MarksState) (slot : ℕ) → is_agent s slot ≡ true → slot ≤ s.locks.agents
agent_within s slot a = leb-true slot (agents_of s) (and_parts (nat_lt 0 slot) (nat_le slot (agents_of s)) a).1

apart : (s : MarksState) (o p : Owner) → s.locks.agents ≤ 16 → IsOwner s o → (IsTaken s o → is_over s o ≡ true) → IsTaken s p → is_over s p ≡ false → number_of p ≢ number_of o
apart s (owner.Slot a) (owner.Slot b) few own over taken going e =
    both_ways (is_over s (owner.Slot a)) (subst (λ z. is_over s (owner.Slot z) ≡ false) e going) (over (subst (λ z. IsTaken s (owner.Slot z)) e taken))
apart s (owner.Slot a) (owner.Rollback b) few own over taken going e = slot_apart a b s.locks.agents (agent_within s a own) few (sym e)
apart s (owner.Rollback a) (owner.Slot b) few own over taken going e = slot_apart b a s.locks.agents (agent_within s b taken.0) few e
apart s (owner.Rollback a) (owner.Rollback b) few own over taken going e =
    let same : b ≡ a = omega (arith, e) in
    both_ways (is_over s (owner.Rollback a)) (subst (λ z. is_over s (owner.Rollback z) ≡ false) same going) (over (subst (λ z. IsTaken s (owner.Rollback z)) same taken))

keeps_others : (s t : MarksState) (o : Owner) → IsBook s.locks → IsOwner s o → (IsTaken s o → is_over s o ≡ true) → Leaves s t (number_of o) → KeepsOpen s t
keeps_others s t o book own over leaves = record {
  book = leaves.book;
  rows = λ id spot ne l going. locked_other s t (number_of o) leaves id spot ne l.by (apart s o l.by book.few own over l.taken going) l.taken l.named l.space l.row;
}

-- ---- a lock is given up
noted_leaves : (s : MarksState) (o : Owner) (b : Book) (gone : ℕ) → HasLeft s.locks b gone → b.agents ≡ s.locks.agents → Leaves s (with_locks (noted_released s o) b) gone
noted_leaves s o b gone left agents =
    let stays : TransStay s.trans (noted_released s o).trans = stay_of s.trans o (with_released (tran_of s o)) refl refl in record {
      book = left.stands;
      agents = agents;
      slots = λ slot other h. stays.slots slot h;
      rollbacks = λ id other h. stays.rollbacks id h;
      claims = left.others;
    }

some_told : (x : Name × Interest) → None ≡ Some x → ⊥
some_told x e = cc

slot_release : Facts → (s : MarksState) (slot : ℕ) (x : Name × Interest) → IsBook s.locks → (IsTaken s (owner.Slot slot) → is_over s (owner.Slot slot) ≡ true) → releasing s (owner.Slot slot) ≡ Some x → KeepsOpen s (slot_released s slot)
slot_release facts s slot x book over told = by (is_agent s slot) refl
  where
    said : is_agent s slot ≡ true → release_told s.locks slot ≡ Some x
    said a = sym (cond-true (nat_le slot (agents_of s)) (release_told s.locks slot) None (and_parts (nat_lt 0 slot) (nat_le slot (agents_of s)) a).1) ∙ told

    by : (b : Bool) → is_agent s slot ≡ b → KeepsOpen s (if b then with_locks (noted_released s (owner.Slot slot)) (after_release s.locks slot) else s)
    by true a = keeps_others s (with_locks (noted_released s (owner.Slot slot)) (after_release s.locks slot)) (owner.Slot slot) book a over
        (noted_leaves s (owner.Slot slot) (after_release s.locks slot) slot (facts.release s.locks slot x.0 x.1 book (agent_below s slot a) (said a)).0 refl)
    by false a = open_all s s (all_itself s book)

rollback_release : Facts → (s : MarksState) (id : ℕ) (x : Name × Interest) → IsBook s.locks → (IsTaken s (owner.Rollback id) → is_over s (owner.Rollback id) ≡ true) → rollback_releasing s id ≡ Some x → KeepsOpen s (rollback_released s id)
rollback_release facts s id x book over told = by (lock_place s id) refl
  where
    by : (p : Option ℕ) → lock_place s id ≡ p → KeepsOpen s (rollback_released s id)
    by None place = absurd (some_told x (ap (λ z. postponed_told s.locks z) (sym place) ∙ told))
    by (Some k) place =
        let said : release_told s.locks (slots s.locks + k) ≡ Some x = ap (λ z. postponed_told s.locks z) (sym place) ∙ told in
        let left = facts.rollback_release s.locks id k x.0 x.1 book place said in
        let u : MarksState = with_locks (noted_released s (owner.Rollback id)) (after_release s.locks (slots s.locks + k)) in
        let is : rollback_released s id ≡ u =
        cond-true (is_some (rollback_releasing s id)) (with_locks (noted_released s (owner.Rollback id)) (after_postponed_release s.locks (lock_place s id))) s (ap (λ z. is_some z) told)
        ∙ ap (λ z. with_locks (noted_released s (owner.Rollback id)) (after_postponed_release s.locks z)) place
        ∙ ap (λ z. with_locks (noted_released s (owner.Rollback id)) z) (cond-true (is_some (release_told s.locks (slots s.locks + k))) (after_release s.locks (slots s.locks + k)) (ended (after_release s.locks (slots s.locks + k)) k) (ap (λ z. is_some z) said)) in
        open_as s (rollback_released s id) u is (keeps_others s u (owner.Rollback id) book tt over (noted_leaves s (owner.Rollback id) (after_release s.locks (slots s.locks + k)) (rollback_owner id) left.0 refl))

release_of : Facts → (s : MarksState) (o : Owner) (x : Name × Interest) → IsBook s.locks → (IsTaken s o → is_over s o ≡ true) → releasing s o ≡ Some x → KeepsOpen s (after_release_of s o)
release_of facts s (owner.Slot slot) x book over told = slot_release facts s slot x book over told
release_of facts s (owner.Rollback id) x book over told = rollback_release facts s id x book over told

pub open_released : Facts → (s : MarksState) (o : Owner) (x : Name × Interest) (answer : Reply) → IsBook s.locks → (IsTaken s o → is_over s o ≡ true) → releasing s o ≡ Some x → KeepsOpen s (released_after s o answer)
open_released facts s o x (reply.Granted version) book over told = open_all s s (all_itself s book)
open_released facts s o x (reply.Retained by) book over told = open_all s s (all_itself s book)
open_released facts s o x (reply.RecordsFull limit) book over told = open_all s s (all_itself s book)
open_released facts s o x (reply.Contention share exclusive version) book over told = open_all s s (all_itself s book)
open_released facts s o x (reply.Moved version) book over told = open_all s s (all_itself s book)
open_released facts s o x (reply.RetainedLock other mode) book over told = open_all s s (all_itself s book)
open_released facts s o x reply.Done book over told = release_of facts s o x book over told
open_released facts s o x reply.Nothing book over told = open_all s s (all_itself s book)
open_released facts s o x reply.Found book over told = open_all s s (all_itself s book)
open_released facts s o x reply.NoData book over told = open_all s s (all_itself s book)
open_released facts s o x reply.CacheFull book over told = open_all s s (all_itself s book)
open_released facts s o x reply.Lost book over told = open_all s s (all_itself s book)
open_released facts s o x reply.Written book over told = open_all s s (all_itself s book)
open_released facts s o x reply.Valid book over told = open_all s s (all_itself s book)
open_released facts s o x reply.Invalid book over told = open_all s s (all_itself s book)
open_released facts s o x reply.Taken book over told = open_all s s (all_itself s book)
open_released facts s o x reply.NotChanged book over told = open_all s s (all_itself s book)
open_released facts s o x (reply.Locked by) book over told = open_all s s (all_itself s book)
open_released facts s o x reply.NotHeld book over told = open_all s s (all_itself s book)
open_released facts s o x (reply.ChangedPage page) book over told = open_all s s (all_itself s book)
open_released facts s o x (reply.Query query) book over told = open_all s s (all_itself s book)
open_released facts s o x reply.Gone book over told = open_all s s (all_itself s book)
open_released facts s o x reply.Cells book over told = open_all s s (all_itself s book)
open_released facts s o x reply.Waits book over told = open_all s s (all_itself s book)
open_released facts s o x reply.Raised book over told = open_all s s (all_itself s book)
open_released facts s o x reply.NotRaised book over told = open_all s s (all_itself s book)
open_released facts s o x (reply.Status status) book over told = open_all s s (all_itself s book)
open_released facts s o x reply.NotLost book over told = open_all s s (all_itself s book)
open_released facts s o x (reply.ClaimTaken by) book over told = open_all s s (all_itself s book)
open_released facts s o x reply.Claimed book over told = open_all s s (all_itself s book)
open_released facts s o x (reply.Drawn lrsn) book over told = open_all s s (all_itself s book)
open_released facts s o x (reply.Stale index) book over told = open_all s s (all_itself s book)
open_released facts s o x (reply.LrsnEnd at) book over told = open_all s s (all_itself s book)

-- ---- a page's lock is given up
covers_other : (b : Book) (n : Name) → IsBook b → (o c : ℕ) → o ≢ 0 → claim_in (after_page_release b n) o c ≡ claim_in b o c
covers_other b n book o c ne =
    ap (λ z. mode_in z (name_at c)) (slot_set b.holders b.rollbacks b.agents 0 (without (claims_of b 0) n) o book.few (omega arith) (omega (arith, book.owners)) ∙ cond-false (o == 0) (without (claims_of b 0) n) (claims_by b o) (ne_eqb o 0 ne))

page_leaves : (s : MarksState) (p : PageId) → IsBook s.locks → Leaves s (with_locks s (after_page_release s.locks (name.Page p))) 0
page_leaves s p book = record {
  book = slot_stands s.locks 0 (after_page_release s.locks (name.Page p)).spare (without (claims_of s.locks 0) (name.Page p)) book (distinct_without (claims_of s.locks 0) (name.Page p) (book.once 0)).0;
  agents = refl;
  slots = λ slot other h. goes_itself (slot_tran s slot) h;
  rollbacks = λ id other h. h;
  claims = λ o c ne. covers_other s.locks (name.Page p) book o c ne;
}

-- no transaction is the member itself
not_own : (s : MarksState) (o : Owner) → IsTaken s o → number_of o ≢ 0
not_own s (owner.Slot slot) taken e = (let p = and_parts (nat_lt 0 slot) (nat_le slot (agents_of s)) taken.0 in no_slot slot e p.0)
  where
    no_slot : (k : ℕ) → k ≡ 0 → nat_lt 0 k ≡ true → ⊥
    no_slot k zero lt = both_ways (nat_lt 0 0) refl (subst (λ z. nat_lt 0 z ≡ true) zero lt)
not_own s (owner.Rollback id) taken e = no_rollback id e
  where
    no_rollback : (k : ℕ) → rollback_owner k ≡ 0 → ⊥
    no_rollback k zero = omega (arith, zero)

page_release : (s : MarksState) (p : PageId) → IsBook s.locks → KeepsAll s (after_release_page s p)
page_release s p book = all_if s (with_locks s (after_page_release s.locks (name.Page p))) s (has_page s p)
    (λ e. (let leaves = page_leaves s p book in record {
      book = leaves.book;
      rows = λ id spot ne l. locked_other s (with_locks s (after_page_release s.locks (name.Page p))) 0 leaves id spot ne l.by (not_own s l.by l.taken) l.taken l.named l.space l.row;
    }))
    (λ e. all_itself s book)

pub all_page_released : (s : MarksState) (p : PageId) (answer : Reply) → IsBook s.locks → KeepsAll s (page_released_after s p answer)
all_page_released s p (reply.Granted version) book = all_itself s book
all_page_released s p (reply.Retained by) book = all_itself s book
all_page_released s p (reply.RecordsFull limit) book = all_itself s book
all_page_released s p (reply.Contention share exclusive version) book = all_itself s book
all_page_released s p (reply.Moved version) book = all_itself s book
all_page_released s p (reply.RetainedLock other mode) book = all_itself s book
all_page_released s p reply.Done book = page_release s p book
all_page_released s p reply.Nothing book = all_itself s book
all_page_released s p reply.Found book = all_itself s book
all_page_released s p reply.NoData book = all_itself s book
all_page_released s p reply.CacheFull book = all_itself s book
all_page_released s p reply.Lost book = all_itself s book
all_page_released s p reply.Written book = all_itself s book
all_page_released s p reply.Valid book = all_itself s book
all_page_released s p reply.Invalid book = all_itself s book
all_page_released s p reply.Taken book = all_itself s book
all_page_released s p reply.NotChanged book = all_itself s book
all_page_released s p (reply.Locked by) book = all_itself s book
all_page_released s p reply.NotHeld book = all_itself s book
all_page_released s p (reply.ChangedPage other) book = all_itself s book
all_page_released s p (reply.Query query) book = all_itself s book
all_page_released s p reply.Gone book = all_itself s book
all_page_released s p reply.Cells book = all_itself s book
all_page_released s p reply.Waits book = all_itself s book
all_page_released s p reply.Raised book = all_itself s book
all_page_released s p reply.NotRaised book = all_itself s book
all_page_released s p (reply.Status status) book = all_itself s book
all_page_released s p reply.NotLost book = all_itself s book
all_page_released s p (reply.ClaimTaken by) book = all_itself s book
all_page_released s p reply.Claimed book = all_itself s book
all_page_released s p (reply.Drawn lrsn) book = all_itself s book
all_page_released s p (reply.Stale index) book = all_itself s book
all_page_released s p (reply.LrsnEnd at) book = all_itself s book

-- ---- a transaction ends
free_leaves : (s : MarksState) (slot : ℕ) (b : Book) → HasLeft s.locks b slot → b.agents ≡ s.locks.agents → Leaves s (record s { locks = b; trans = slot_ended s.trans slot }) slot
free_leaves s slot b left agents = record {
  book = left.stands;
  agents = agents;
  slots = λ k other h. subst (λ z. GoesOn (slot_tran s k) z) (sym (get_or-set_other s.trans.slots slot k free_tran free_tran other)) (goes_itself (slot_tran s k) h);
  rollbacks = λ id other h. from_list (slot_ended s.trans slot) id (to_list s.trans id h);
  claims = left.others;
}

slot_end : Facts → (s : MarksState) (slot : ℕ) → IsBook s.locks → (IsTaken s (owner.Slot slot) → is_over s (owner.Slot slot) ≡ true) → KeepsOpen s (after_end_of s (owner.Slot slot))
slot_end facts s slot book over = by (is_agent s slot) refl
  where
    by : (b : Bool) → is_agent s slot ≡ b → KeepsOpen s (if b then record s { locks = with_claims s.locks slot []; trans = slot_ended s.trans slot } else s)
    by true a = keeps_others s (record s { locks = with_claims s.locks slot []; trans = slot_ended s.trans slot }) (owner.Slot slot) book a over
        (free_leaves s slot (with_claims s.locks slot []) (facts.end s.locks slot book (agent_below s slot a)).0 refl)
    by false a = open_all s s (all_itself s book)

rollback_goes : (t : TransState) (id : ℕ) (o : Option ℕ) → place_of t id ≡ o → (other : ℕ) → other ≢ id → is_undoing (tran_in t (owner.Rollback other)).stage ≡ true → is_undoing (tran_in (rollback_ended t o) (owner.Rollback other)).stage ≡ true
rollback_goes t id None place other ne h = h
rollback_goes t id (Some k) place other ne h =
    let first : (slice_index_or t.rollbacks k free_tran).first ≡ id = ap (λ z. (slice_index_or t.rollbacks z free_tran).first) (from_zero k) ∙ first_at t.rollbacks 0 id k place in
    from_list (rollback_ended t (Some k)) other (undoes_left t.rollbacks k id other first ne (to_list t other h))
  where
    from_zero : (k : ℕ) → k ≡ k - 0
    from_zero k = omega arith

dropped_left : Facts → (b : Book) (id : ℕ) (o : Option ℕ) → IsBook b → place_in b.rollbacks 0 id ≡ o → IsBook (dropped b o) × ((dropped b o).agents ≡ b.agents) × ((p c : ℕ) → p ≢ rollback_owner id → claim_in (dropped b o) p c ≡ claim_in b p c)
dropped_left facts b id None book place = (book, refl, λ p c ne. refl)
dropped_left facts b id (Some k) book place = (let left = facts.rollback_end b id k book place in (left.0.stands, refl, left.0.others))

rollback_end : Facts → (s : MarksState) (id : ℕ) → IsBook s.locks → (IsTaken s (owner.Rollback id) → is_over s (owner.Rollback id) ≡ true) → KeepsOpen s (rollback_over s id)
rollback_end facts s id book over =
    let left = dropped_left facts s.locks id (lock_place s id) book refl in
    keeps_others s (rollback_over s id) (owner.Rollback id) book tt over (record {
      book = left.0;
      agents = left.1;
      slots = λ slot other h. same_slots (place_of s.trans id) slot h;
      rollbacks = λ old other h. rollback_goes s.trans id (place_of s.trans id) refl old (λ e. other (ap rollback_owner e)) h;
      claims = left.2;
    })
  where
    same_slots : (o : Option ℕ) (slot : ℕ) → has_tran (slot_tran s slot).stage ≡ true → GoesOn (slot_tran s slot) (tran_at (rollback_ended s.trans o) slot)
    same_slots None slot h = goes_itself (slot_tran s slot) h
    same_slots (Some k) slot h = goes_itself (slot_tran s slot) h

end_of : Facts → (s : MarksState) (o : Owner) → IsBook s.locks → (IsTaken s o → is_over s o ≡ true) → KeepsOpen s (after_end_of s o)
end_of facts s (owner.Slot slot) book over = slot_end facts s slot book over
end_of facts s (owner.Rollback id) book over = rollback_end facts s id book over

pub open_unsent : Facts → (s : MarksState) (o : Owner) → IsBook s.locks → (IsTaken s o → is_over s o ≡ true) → KeepsOpen s (after_end_of s o)
open_unsent facts s o book over = end_of facts s o book over

pub open_ended : Facts → (s : MarksState) (o : Owner) (answer : Reply) → IsBook s.locks → (IsTaken s o → is_over s o ≡ true) → KeepsOpen s (ended_after s o answer)
open_ended facts s o (reply.Granted version) book over = open_all s s (all_itself s book)
open_ended facts s o (reply.Retained by) book over = open_all s s (all_itself s book)
open_ended facts s o (reply.RecordsFull limit) book over = open_all s s (all_itself s book)
open_ended facts s o (reply.Contention share exclusive version) book over = open_all s s (all_itself s book)
open_ended facts s o (reply.Moved version) book over = open_all s s (all_itself s book)
open_ended facts s o (reply.RetainedLock other mode) book over = open_all s s (all_itself s book)
open_ended facts s o reply.Done book over = end_of facts s o book over
open_ended facts s o reply.Nothing book over = open_all s s (all_itself s book)
open_ended facts s o reply.Found book over = open_all s s (all_itself s book)
open_ended facts s o reply.NoData book over = open_all s s (all_itself s book)
open_ended facts s o reply.CacheFull book over = open_all s s (all_itself s book)
open_ended facts s o reply.Lost book over = open_all s s (all_itself s book)
open_ended facts s o reply.Written book over = open_all s s (all_itself s book)
open_ended facts s o reply.Valid book over = open_all s s (all_itself s book)
open_ended facts s o reply.Invalid book over = open_all s s (all_itself s book)
open_ended facts s o reply.Taken book over = open_all s s (all_itself s book)
open_ended facts s o reply.NotChanged book over = open_all s s (all_itself s book)
open_ended facts s o (reply.Locked by) book over = open_all s s (all_itself s book)
open_ended facts s o reply.NotHeld book over = open_all s s (all_itself s book)
open_ended facts s o (reply.ChangedPage page) book over = open_all s s (all_itself s book)
open_ended facts s o (reply.Query query) book over = open_all s s (all_itself s book)
open_ended facts s o reply.Gone book over = open_all s s (all_itself s book)
open_ended facts s o reply.Cells book over = open_all s s (all_itself s book)
open_ended facts s o reply.Waits book over = open_all s s (all_itself s book)
open_ended facts s o reply.Raised book over = open_all s s (all_itself s book)
open_ended facts s o reply.NotRaised book over = open_all s s (all_itself s book)
open_ended facts s o (reply.Status status) book over = open_all s s (all_itself s book)
open_ended facts s o reply.NotLost book over = open_all s s (all_itself s book)
open_ended facts s o (reply.ClaimTaken by) book over = open_all s s (all_itself s book)
open_ended facts s o reply.Claimed book over = open_all s s (all_itself s book)
open_ended facts s o (reply.Drawn lrsn) book over = open_all s s (all_itself s book)
open_ended facts s o (reply.Stale index) book over = open_all s s (all_itself s book)
open_ended facts s o (reply.LrsnEnd at) book over = open_all s s (all_itself s book)

-- ---- an owner whose transaction may end
taken_stage : (x : Stage) → has_tran x ≡ true → was_postponed x ≡ true → ⊥
taken_stage stage.Free a b = cc
taken_stage stage.Forward a b = cc
taken_stage stage.Drawn a b = cc
taken_stage stage.Decided a b = cc
taken_stage stage.Undoing a b = cc
taken_stage stage.Postponed a b = cc

undoing_stage : (x : Stage) → is_undoing x ≡ true → was_postponed x ≡ true → ⊥
undoing_stage stage.Free a b = cc
undoing_stage stage.Forward a b = cc
undoing_stage stage.Drawn a b = cc
undoing_stage stage.Decided a b = cc
undoing_stage stage.Undoing a b = cc
undoing_stage stage.Postponed a b = cc

not_postponed : (s : MarksState) (o : Owner) → IsTaken s o → was_postponed (tran_of s o).stage ≡ true → ⊥
not_postponed s (owner.Slot slot) taken was = taken_stage (slot_tran s slot).stage taken.1 was
not_postponed s (owner.Rollback id) taken was = undoing_stage (tran_of s (owner.Rollback id)).stage taken was

pub may_end : (s : MarksState) (o : Owner) → MayEnd (was_postponed (tran_of s o).stage) s o → IsTaken s o → is_over s o ≡ true
may_end s o may taken = by (was_postponed (tran_of s o).stage) refl may
  where
    by : (b : Bool) → was_postponed (tran_of s o).stage ≡ b → MayEnd b s o → is_over s o ≡ true
    by true was m = absurd (not_postponed s o taken was)
    by false was m = m.over
