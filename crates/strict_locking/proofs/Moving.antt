-- Local moves: whatever a transaction has locked, it still has, or its rollback has it where it is postponed.
use Rattle.std.proofs.Common.{◌≡◌, ℕ, ◌+◌, ◌≤◌, refl, sym, ◌∙◌, ap, subst, arith, inl, inr, Bool, true, false, List, [], ◌∷◌, Option, Some, None}
use Rattle.std.specs.Prelude.{◌≢◌, ◌-◌, ◌==◌, ◌&&◌, not, nat_le, nat_lt, is_none}
use Rattle.std.proofs.lemmas.Bool.{and_parts, cases_eq, cond-true, leb-true}
use Rattle.std.proofs.lemmas.List.{get_or-set_other}
use Rattle.ds_base.specs.declared.names.PageId.{PageId}
use Rattle.ds_model.specs.Rows.{Spot}
use Rattle.ds_model.specs.declared.fate.Refusal.TheVariants as refusal
use Rattle.lock_names.specs.declared.mode.Mode.{Mode}
use Rattle.lock_names.specs.declared.mode.Mode.TheVariants.{IX, X}
use Rattle.lock_manager.specs.Managers.{after_postpone as claims_postponed, is_postponed, waiting_at}
use Rattle.member_pool.specs.Frames.{find_page, is_unpinned}
use Rattle.member_pool.specs.Heads.{HeadState, free_in, head_of, pinned_to, placed_in, with_head}
use Rattle.member_trans.specs.declared.fate.Owner.{Owner}
use Rattle.member_trans.specs.declared.fate.Owner.TheVariants as owner
use Rattle.member_trans.specs.Trans.{TransState, TranState, after_refuse, free_tran, has_rollback, has_room_for, is_empty, is_new, is_undoing, left_behind, may_begin, may_postpone as may_postpone_tran, refused_for, with_postponed as tran_with_postponed, without_offer}
use Rattle.member_marks.specs.State.{MarksState, agents_of, slot_tran, with_heads, with_trans}
use Rattle.member_marks.specs.Claims.{is_agent, lock_place}
use Rattle.member_marks.specs.Frames.{may_pin, may_unpin, placed_at}
use Rattle.member_marks.specs.Local.{Local, Claim, Begin, Refuse, Abort, RefuseForMemory, Place, Pin, Unpin, Postpone, WaitFor, Reaches, all_moved, begun_with, moved, with_lock_room}
use Rattle.member_marks.specs.Rollbacks.{can_postpone, postponed_for_member, retainer, waiting_for, with_postponed}
use Rattle.marks_law.specs.Transactions.{MovesStay, TransStay, has_tran}
use Rattle.marks_law.proofs.Found.{from_list, to_list, undoes_more, undoes_new}
use Rattle.marks_law.proofs.Staying.{stay_itself, stay_same}
use Rattle.lock_protocol.specs.Machine.{Covers}
use Rattle.lock_world.specs.Books.{HasHandedOn, IsBook, PostponedHandsOn, RollbackWaits}
use Rattle.lock_world.specs.Rollbacks.{row_of, space_of}
use Rattle.lock_world.specs.Views.{claim_in, rollback_owner}
use Rattle.strict_locking.specs.Keeping.{KeepsAll, MovesKeep}
use Rattle.strict_locking.specs.Rows.{HasLocked, IsTaken, name_of, number_of}
use Rattle.strict_locking.proofs.Keeping.{all_as, all_if, all_itself, all_on, all_trans, keeps_all}
use Rattle.strict_locking.proofs.Taking as taking
use Rattle.strict_locking.proofs.Taking.{agent_below, all_tried}

-- what the crates below say
pub record Facts : Type 0 where
  pub taking : taking.Facts
  pub local : MovesStay
  pub postponed : PostponedHandsOn
  pub waits : RollbackWaits

-- ---- heads change, or the room for rollbacks does
all_heads : (s : MarksState) (h : HeadState) → IsBook s.locks → KeepsAll s (with_heads s h)
all_heads s h book = keeps_all s (with_heads s h) (record { book = book; agents = refl; trans = stay_itself s.trans; covers = λ o c x has. has })

placed : (s : MarksState) (p : PageId) (o : Option ℕ) → IsBook s.locks → KeepsAll s (placed_at s p o)
placed s p None book = all_itself s book
placed s p (Some at) book = all_if s (with_heads s (placed_in s.heads at p)) s (is_unpinned (head_of s.heads at)) (λ e. all_heads s (placed_in s.heads at p) book) (λ e. all_itself s book)

begins : Facts → (s : MarksState) (slot n : ℕ) (has_memory : Bool) (lock_room room : ℕ) → IsBook s.locks → KeepsAll s (moved (Begin slot n has_memory lock_room room) s)
begins facts s slot n has_memory lock_room room book =
    all_if s (with_trans (with_lock_room s lock_room) (begun_with s.trans slot n has_memory room)) s (may_begin s.trans slot)
    (λ e. keeps_all s (with_trans (with_lock_room s lock_room) (begun_with s.trans slot n has_memory room)) (record {
      book = record { owners = book.owners; few = book.few; once = book.once; apart = book.apart };
      agents = refl;
      trans = subst (λ (z : MarksState). TransStay s.trans z.trans) (cond-true (may_begin s.trans slot) (with_trans (with_lock_room s lock_room) (begun_with s.trans slot n has_memory room)) s e) (facts.local s (Begin slot n has_memory lock_room room) refl);
      covers = λ o c x has. has;
    }))
    (λ e. all_itself s book)

-- ---- a rollback is postponed
-- the marks then
abbrev handed_on : MarksState → ℕ → ℕ → MarksState
handed_on s slot by = record s { locks = claims_postponed s.locks slot (slot_tran s slot).first by; trans = without_offer (tran_with_postponed s.trans slot (slot_tran s slot)) }

not_true : (b : Bool) → not b ≡ true → b ≡ false
not_true false e = refl
not_true true e = cc

-- why it may be
record MayGo (s : MarksState) (slot : ℕ) : Type 0 where
  pub agent : is_agent s slot ≡ true
  pub undoing : is_undoing (slot_tran s slot).stage ≡ true
  pub unnamed : has_rollback s.trans (slot_tran s slot).first ≡ false
  pub unlocked : is_postponed s.locks (slot_tran s slot).first ≡ false
  pub tran : may_postpone_tran s.trans slot ≡ true

may_go : (s : MarksState) (slot : ℕ) → can_postpone s slot ≡ true → MayGo s slot
may_go s slot can =
    let id = (slot_tran s slot).first in
    let p = and_parts (is_agent s slot) (may_postpone_tran s.trans slot && (nat_lt 0 s.locks.room && not (is_postponed s.locks id))) can in
    let q = and_parts (may_postpone_tran s.trans slot) (nat_lt 0 s.locks.room && not (is_postponed s.locks id)) p.1 in
    let r = and_parts (nat_lt 0 s.locks.room) (not (is_postponed s.locks id)) q.1 in
    let t = and_parts (is_undoing (slot_tran s slot).stage) (not (is_empty (slot_tran s slot).changes) && has_room_for s.trans id) q.0 in
    let u = and_parts (not (is_empty (slot_tran s slot).changes)) (has_room_for s.trans id) t.1 in
    let v = and_parts (is_new s.trans id) (nat_lt 0 s.trans.room) u.1 in
    let x = and_parts (not (id == 0)) (not (has_rollback s.trans id)) v.0 in record {
      agent = p.0;
      undoing = t.0;
      unnamed = not_true (has_rollback s.trans id) x.1;
      unlocked = not_true (is_postponed s.locks id) r.1;
      tran = q.0;
    }

within : (s : MarksState) (slot : ℕ) → is_agent s slot ≡ true → slot ≤ s.locks.agents
within s slot a = leb-true slot (agents_of s) (and_parts (nat_lt 0 slot) (nat_le slot (agents_of s)) a).1

none_covers : (x : Option Mode) (m : Mode) → x ≡ None → Covers x m → ⊥
none_covers None m e h = h
none_covers (Some c) m e h = cc

on_slot : (s : MarksState) (slot by : ℕ) → IsBook s.locks → MayGo s slot → HasHandedOn s.locks (handed_on s slot by).locks slot (slot_tran s slot).first
    → (id : ℕ) (spot : Spot) (a : ℕ) → IsTaken s (owner.Slot a) → (slot_tran s a).first ≡ id → Covers (claim_in s.locks a (space_of spot)) IX → Covers (claim_in s.locks a (row_of spot)) X
    → HasLocked (handed_on s slot by) id spot
on_slot s slot by book may h id spot a taken named space row = elim (cases_eq a slot) [
  | inl e ↦ record {
    by = owner.Rollback (slot_tran s slot).first;
    taken = from_list (handed_on s slot by).trans (slot_tran s slot).first (undoes_new s.trans.rollbacks 0 (slot_tran s slot) may.unnamed may.undoing);
    named = ap (λ z. (slot_tran s z).first) (sym e) ∙ named;
    space = subst (λ z. Covers z IX) (ap (λ z. claim_in s.locks z (space_of spot)) e ∙ sym (h.given (space_of spot))) space;
    row = subst (λ z. Covers z X) (ap (λ z. claim_in s.locks z (row_of spot)) e ∙ sym (h.given (row_of spot))) row;
  }
  | inr ne ↦ record {
    by = owner.Slot a;
    taken = (taken.0, subst (λ (z : TranState). has_tran z.stage ≡ true) (sym (other ne)) taken.1);
    named = ap (λ (z : TranState). z.first) (other ne) ∙ named;
    space = subst (λ z. Covers z IX) (sym (h.rest a (space_of spot) ne far)) space;
    row = subst (λ z. Covers z X) (sym (h.rest a (row_of spot) ne far)) row;
  }
]
  where
    other : a ≢ slot → slot_tran (handed_on s slot by) a ≡ slot_tran s a
    other ne = get_or-set_other s.trans.slots slot a (left_behind (slot_tran s slot)) free_tran ne

    far : a ≢ rollback_owner (slot_tran s slot).first
    far e = (let le = within s a taken.0 in let few = book.few in omega (arith, le, few, e))

on_rollback : (s : MarksState) (slot by : ℕ) → IsBook s.locks → MayGo s slot → HasHandedOn s.locks (handed_on s slot by).locks slot (slot_tran s slot).first
    → (id : ℕ) (spot : Spot) (r : ℕ) → IsTaken s (owner.Rollback r) → r ≡ id → Covers (claim_in s.locks (rollback_owner r) (space_of spot)) IX → Covers (claim_in s.locks (rollback_owner r) (row_of spot)) X
    → HasLocked (handed_on s slot by) id spot
on_rollback s slot by book may h id spot r taken named space row = record {
  by = owner.Rollback r;
  taken = from_list (handed_on s slot by).trans r (undoes_more s.trans.rollbacks (slot_tran s slot ∷ []) r (to_list s.trans r taken));
  named = named;
  space = subst (λ z. Covers z IX) (sym (h.rest (rollback_owner r) (space_of spot) far apart)) space;
  row = subst (λ z. Covers z X) (sym (h.rest (rollback_owner r) (row_of spot) far apart)) row;
}
  where
    far : rollback_owner r ≢ slot
    far e = (let le = within s slot may.agent in let few = book.few in omega (arith, le, few, e))

    apart : rollback_owner r ≢ rollback_owner (slot_tran s slot).first
    apart e = none_covers (claim_in s.locks (rollback_owner r) (row_of spot)) X (ap (λ z. claim_in s.locks z (row_of spot)) e ∙ h.new (row_of spot)) row

on_owner : (s : MarksState) (slot by : ℕ) → IsBook s.locks → MayGo s slot → HasHandedOn s.locks (handed_on s slot by).locks slot (slot_tran s slot).first
    → (id : ℕ) (spot : Spot) (o : Owner) → IsTaken s o → name_of s o ≡ id → Covers (claim_in s.locks (number_of o) (space_of spot)) IX → Covers (claim_in s.locks (number_of o) (row_of spot)) X → HasLocked (handed_on s slot by) id spot
on_owner s slot by book may h id spot (owner.Slot a) taken named space row = on_slot s slot by book may h id spot a taken named space row
on_owner s slot by book may h id spot (owner.Rollback r) taken named space row = on_rollback s slot by book may h id spot r taken named space row

hands_on : Facts → (s : MarksState) (slot by : ℕ) → IsBook s.locks → MayGo s slot → KeepsAll s (with_postponed s slot by)
hands_on facts s slot by book may =
    let h = facts.postponed s.locks slot (slot_tran s slot).first by book (agent_below s slot may.agent) may.unlocked in
    let is : with_postponed s slot by ≡ handed_on s slot by =
    ap (λ (z : TransState). record s { locks = claims_postponed s.locks slot (slot_tran s slot).first by; trans = without_offer z })
    (cond-true (may_postpone_tran s.trans slot) (tran_with_postponed s.trans slot (slot_tran s slot)) s.trans may.tran) in
    all_as s (with_postponed s slot by) (handed_on s slot by) is (record {
      book = h.stands;
      rows = λ id spot ne l. on_owner s slot by book may h id spot l.by l.taken l.named l.space l.row;
    })

postpones_by : Facts → (s : MarksState) (slot : ℕ) (o : Option ℕ) → IsBook s.locks → MayGo s slot → KeepsAll s (postponed_for_member s slot o)
postpones_by facts s slot None book may = all_itself s book
postpones_by facts s slot (Some by) book may = hands_on facts s slot by book may

-- ---- a rollback waits
waits_at : Facts → (s : MarksState) (id by : ℕ) (p : Option ℕ) → IsBook s.locks → lock_place s id ≡ p → KeepsAll s (record s { locks = record s.locks { rollbacks = waiting_at s.locks.rollbacks p id by }; trans = without_offer s.trans })
waits_at facts s id by None book place = all_trans s (without_offer s.trans) book (stay_same s.trans (without_offer s.trans) refl refl)
waits_at facts s id by (Some k) book place =
    let h = facts.waits s.locks id k by book place in
    keeps_all s (record s { locks = record s.locks { rollbacks = waiting_at s.locks.rollbacks (Some k) id by }; trans = without_offer s.trans }) (record {
      book = h.1;
      agents = refl;
      trans = stay_same s.trans (without_offer s.trans) refl refl;
      covers = λ o c x has. subst (λ z. Covers z x) (sym (h.0 o c)) has;
    })

waits_by : Facts → (s : MarksState) (id : ℕ) (o : Option ℕ) → IsBook s.locks → KeepsAll s (waiting_for s id o)
waits_by facts s id None book = all_itself s book
waits_by facts s id (Some by) book = waits_at facts s id by (lock_place s id) book refl

-- ---- any of them
move_keeps : Facts → (s : MarksState) (x : Local) → IsBook s.locks → KeepsAll s (moved x s)
move_keeps facts s (Claim slot n m has_memory spare) book = all_tried facts.taking s slot n m s.trans.place has_memory spare book
move_keeps facts s (Begin slot n has_memory lock_room room) book = begins facts s slot n has_memory lock_room room book
move_keeps facts s (Refuse slot) book = all_trans s (after_refuse s.trans slot) book (facts.local s (Refuse slot) refl)
move_keeps facts s (Abort slot) book = all_trans s (refused_for s.trans slot refusal.Aborted s.trans.place) book (facts.local s (Abort slot) refl)
move_keeps facts s (RefuseForMemory slot) book = all_trans s (refused_for s.trans slot refusal.Memory s.trans.place) book (facts.local s (RefuseForMemory slot) refl)
move_keeps facts s (Place p) book = all_if s (placed_at s p (free_in s.heads)) s (is_none (find_page s.heads.frames p)) (λ e. placed s p (free_in s.heads) book) (λ e. all_itself s book)
move_keeps facts s (Pin at) book = all_if s (with_heads s (pinned_to s.heads at ((head_of s.heads at).pins + 1))) s (may_pin s.heads at) (λ e. all_heads s (pinned_to s.heads at ((head_of s.heads at).pins + 1)) book) (λ e. all_itself s book)
move_keeps facts s (Unpin at) book = all_if s (with_heads s (with_head s.heads at (record (head_of s.heads at) { pins = (head_of s.heads at).pins - 1 }))) s (may_unpin s.heads at)
    (λ e. all_heads s (with_head s.heads at (record (head_of s.heads at) { pins = (head_of s.heads at).pins - 1 })) book) (λ e. all_itself s book)
move_keeps facts s (Postpone slot) book = all_if s (postponed_for_member s slot (retainer s (owner.Slot slot))) s (can_postpone s slot)
    (λ e. postpones_by facts s slot (retainer s (owner.Slot slot)) book (may_go s slot e)) (λ e. all_itself s book)
move_keeps facts s (WaitFor id) book = all_if s (waiting_for s id (retainer s (owner.Rollback id))) s (is_postponed s.locks id) (λ e. waits_by facts s id (retainer s (owner.Rollback id)) book) (λ e. all_itself s book)

several : Facts → (xs : List Local) (s t : MarksState) → IsBook s.locks → t ≡ all_moved xs s → KeepsAll s t
several facts [] s t book e = all_as s t s e (all_itself s book)
several facts (x ∷ xs) s t book e =
    let first = move_keeps facts s x book in
    all_on s (moved x s) t first (several facts xs (moved x s) t first.book e)

pub moves_keep : Facts → MovesKeep
unfolding Reaches
moves_keep facts s t book r = several facts r.0 s t book r.1
