-- The numbers behind local moves, and behind a rollback that is adopted.
use Rattle.std.proofs.Common.{◌≡◌, ℕ, ◌+◌, ◌<◌, ◌≤◌, refl, sym, ◌∙◌, ap, subst, arith, Bool, true, false, List, [], ◌∷◌, Option, Some, None}
use Rattle.std.specs.Prelude.{◌≢◌, ◌-◌, ◌==◌, ◌&&◌, not, nat_lt, if◌then◌else◌, is_none, length}
use Rattle.std.proofs.lemmas.Bool.{and_parts, cond_both, eqb-true, ne_eqb}
use Rattle.ds_base.specs.declared.names.PageId.{PageId}
use Rattle.ds_model.specs.declared.fate.Refusal.{Refusal}
use Rattle.ds_model.specs.declared.fate.Refusal.TheVariants as refusal
use Rattle.ds_model.specs.declared.lock.Name.{Name}
use Rattle.ds_model.specs.declared.log.RowChange.{RowChange}
use Rattle.lock_names.specs.declared.mode.Mode.{Mode}
use Rattle.lock_manager.specs.declared.claim.Ask.{Ask}
use Rattle.lock_manager.specs.declared.claim.Ask.TheVariants as ask
use Rattle.lock_manager.specs.Managers.{ask_of, is_postponed}
use Rattle.member_log.specs.Buffers.{LogBuffer}
use Rattle.member_pool.specs.Frames.{find_page, is_unpinned}
use Rattle.member_pool.specs.Heads.{HeadState, free_in, head_of, pinned_to, placed_in, with_head}
use Rattle.member_trans.specs.declared.fate.Change.{Change}
use Rattle.member_trans.specs.declared.fate.Offer.{Offer}
use Rattle.member_trans.specs.declared.fate.Owner.TheVariants as owner
use Rattle.member_trans.specs.Trans.{TransState, after_begin_with, after_postpone as tran_postponed, after_refuse, begun, has_rollback, is_empty, is_free, is_new, left_behind, left_open, may_begin, may_postpone as may_postpone_tran, may_refuse, refused_as, refused_for, same_owner, tran_at, undoing, with_postponed as tran_with_postponed, with_room_for, with_tran}
use Rattle.member_marks.specs.State.{MarksState, slot_id, slot_tran, with_heads, with_locks, with_trans}
use Rattle.member_marks.specs.Claims.{is_agent, may_claim, offered_memory}
use Rattle.member_marks.specs.Frames.{may_pin, may_unpin, placed_at}
use Rattle.member_marks.specs.Local.{Local, Claim, Begin, Refuse, Abort, RefuseForMemory, Place, Pin, Unpin, Postpone, WaitFor, Reaches, given_with, entered_at_home, tried_as, with_lock_room, begun_with, after_begin, moved, all_moved}
use Rattle.member_marks.specs.Rollbacks.{can_postpone, may_adopt, postponed_for_member, retainer, waiting_for, with_postponed, with_rollback}
use Rattle.log_numbers.specs.Numbers.{AreCounted, CountedAdopt, CountedBegin, CountedReach, ForwardReach, named_among, named_in, one_if}
use Rattle.log_numbers.proofs.Effects.{stays_offered}
use Rattle.log_numbers.proofs.Lists.{AllNameNone, free_named, free_none, none_named, none_placed, none_there, push_named, set_forward, set_named, set_none}
use Rattle.log_numbers.proofs.Records.{slot_like, slot_none}
use Rattle.log_numbers.proofs.Stays.{Fewer, Stays, above_some, fewer_if, fewer_itself, fewer_same, stays_as, stays_fewer, stays_heads, stays_if, stays_itself, stays_locks, stays_on, stays_trans}

-- ---- a lock is tried at home
at_home : (s : MarksState) (slot : ℕ) (n : Name) (m : Mode) (event : ℕ) (has_memory : Bool) (spare : ℕ) → Stays s (entered_at_home s slot n m event has_memory spare)
at_home s slot n m event has_memory spare = stays_if s _ _ has_memory (stays_locks s (given_with s.locks spare slot n m)) (stays_fewer s (offered_memory (with_locks s (record s.locks { spare = spare })) slot event) refl (fewer_same s.trans _ refl refl))

tried : (s : MarksState) (slot : ℕ) (n : Name) (m : Mode) (event : ℕ) (has_memory : Bool) (spare : ℕ) (a : Ask) → Stays s (tried_as s slot n m event has_memory spare a)
tried s slot n m event has_memory spare ask.Have = stays_itself s
tried s slot n m event has_memory spare (ask.Conflict by) = stays_offered s (owner.Slot slot) (refusal.Held n (slot_id s by)) event
tried s slot n m event has_memory spare (ask.Postponed by) = stays_offered s (owner.Slot slot) (refusal.Retained n by) event
tried s slot n m event has_memory spare ask.Local = at_home s slot n m event has_memory spare
tried s slot n m event has_memory spare (ask.Facility more) = stays_itself s

-- ---- a transaction begins
begun_slot : (t : TransState) (slot n room : ℕ) → Fewer t (with_room_for (with_tran t slot (begun n)) room)
begun_slot t slot n room = record { named = (slot_none t slot (begun n) refl).named; forward = (slot_none t slot (begun n) refl).forward; free = (slot_none t slot (begun n) refl).free }

begins_slot : (t : TransState) (slot n room : ℕ) → Fewer t (after_begin_with t slot n room)
begins_slot t slot n room = fewer_if t _ _ (may_begin t slot) (begun_slot t slot n room) (fewer_itself t)

begins : (s : MarksState) (slot n : ℕ) (has_memory : Bool) (lock_room room : ℕ) → Stays s (after_begin s slot n has_memory lock_room room)
begins s slot n has_memory lock_room room = stays_if s _ _ (may_begin s.trans slot)
    (stays_fewer s (with_trans (with_lock_room s lock_room) (begun_with s.trans slot n has_memory room)) refl (fewer_if s.trans _ _ has_memory (begins_slot s.trans slot n room) (fewer_itself s.trans)))
    (stays_itself s)

-- ---- a transaction that goes forward is refused
undoing_like : (t : TransState) (slot : ℕ) → Fewer t (with_tran t slot (undoing (tran_at t slot)))
undoing_like t slot = slot_like t slot (undoing (tran_at t slot)) refl (λ e. absurd cc) (λ e. absurd cc)

refused_now : (t : TransState) (slot : ℕ) (r : Refusal) (place : ℕ) → Fewer t (refused_for t slot r place)
refused_now t slot r place = fewer_if t _ _ (may_refuse t slot) (record { named = (undoing_like t slot).named; forward = (undoing_like t slot).forward; free = (undoing_like t slot).free }) (fewer_itself t)

refused_by : (t : TransState) (slot : ℕ) (o : Option Offer) → Fewer t (refused_as t slot o)
refused_by t slot None = fewer_itself t
refused_by t slot (Some o) = fewer_if t _ _ (same_owner o.owner (owner.Slot slot)) (record { named = (refused_now t slot o.refusal o.place).named; forward = (refused_now t slot o.refusal o.place).forward; free = (refused_now t slot o.refusal o.place).free }) (fewer_itself t)

refuses : (t : TransState) (slot : ℕ) → Fewer t (after_refuse t slot)
refuses t slot = fewer_if t _ _ (may_refuse t slot) (refused_by t slot t.offer) (fewer_itself t)

-- ---- pages are placed and pinned
heads : (s : MarksState) (b : Bool) (h : HeadState) → Stays s (if b then with_heads s h else s)
heads s b h = stays_if s _ _ b (stays_heads s h) (stays_itself s)

placed : (s : MarksState) (p : PageId) (o : Option ℕ) → Stays s (placed_at s p o)
placed s p None = stays_itself s
placed s p (Some at) = heads s (is_unpinned (head_of s.heads at)) (placed_in s.heads at p)

-- ---- a rollback is postponed
postponed_now : (t : TransState) (slot : ℕ) → Fewer t (tran_with_postponed t slot (tran_at t slot))
postponed_now t slot = record {
  named = λ id some.
      let set = set_named t.slots slot (left_behind (tran_at t slot)) id some in
      let push = push_named t.rollbacks (tran_at t slot) id in
      let zero = none_named id some in
      omega (arith, set, push, zero);
  forward = λ id some. (let set = set_forward t.slots slot (left_behind (tran_at t slot)) id in omega (arith, set));
  free = λ all. set_none t.slots slot (left_behind (tran_at t slot)) (λ gone. refl) all;
}

postponed_slot : (t : TransState) (slot : ℕ) → Fewer t (tran_postponed t slot)
postponed_slot t slot = fewer_if t _ _ (may_postpone_tran t slot) (postponed_now t slot) (fewer_itself t)

postponed_by : (s : MarksState) (slot : ℕ) (by : Option ℕ) → Stays s (postponed_for_member s slot by)
postponed_by s slot None = stays_itself s
postponed_by s slot (Some by) = stays_fewer s (with_postponed s slot by) refl (record { named = (postponed_slot s.trans slot).named; forward = (postponed_slot s.trans slot).forward; free = (postponed_slot s.trans slot).free })

waits_by : (s : MarksState) (id : ℕ) (by : Option ℕ) → Stays s (waiting_for s id by)
waits_by s id None = stays_itself s
waits_by s id (Some by) = stays_fewer s (waiting_for s id (Some by)) refl (fewer_same s.trans _ refl refl)

-- ---- any of them
stays_moved : (s : MarksState) (x : Local) → Stays s (moved x s)
stays_moved s (Claim slot n m has_memory spare) = stays_if s _ _ (may_claim s slot n) (tried s slot n m s.trans.place has_memory spare (ask_of s.locks slot n m)) (stays_itself s)
stays_moved s (Begin slot n has_memory lock_room room) = begins s slot n has_memory lock_room room
stays_moved s (Refuse slot) = stays_trans s (after_refuse s.trans slot) (refuses s.trans slot)
stays_moved s (Abort slot) = stays_trans s (refused_for s.trans slot refusal.Aborted s.trans.place) (refused_now s.trans slot refusal.Aborted s.trans.place)
stays_moved s (RefuseForMemory slot) = stays_trans s (refused_for s.trans slot refusal.Memory s.trans.place) (refused_now s.trans slot refusal.Memory s.trans.place)
stays_moved s (Place p) = stays_if s _ _ (is_none (find_page s.heads.frames p)) (placed s p (free_in s.heads)) (stays_itself s)
stays_moved s (Pin at) = heads s (may_pin s.heads at) (pinned_to s.heads at ((head_of s.heads at).pins + 1))
stays_moved s (Unpin at) = heads s (may_unpin s.heads at) (with_head s.heads at (record (head_of s.heads at) { pins = (head_of s.heads at).pins - 1 }))
stays_moved s (Postpone slot) = stays_if s _ _ (can_postpone s slot) (postponed_by s slot (retainer s (owner.Slot slot))) (stays_itself s)
stays_moved s (WaitFor id) = stays_if s _ _ (is_postponed s.locks id) (waits_by s id (retainer s (owner.Rollback id))) (stays_itself s)

all_stay : (xs : List Local) (s : MarksState) → Stays s (all_moved xs s)
all_stay [] s = stays_itself s
all_stay (x ∷ xs) s = stays_on s (moved x s) (all_moved xs (moved x s)) (stays_moved s x) (all_stay xs (moved x s))

pub reach_stays : (s t : MarksState) → Reaches s t → Stays s t
unfolding Reaches
reach_stays s t r = stays_as s t (all_moved r.0 s) r.1 (all_stay r.0 s)

pub counted_reach : CountedReach
counted_reach c s t r k = (reach_stays s t r).counted c k

pub forward_reach : ForwardReach
forward_reach s t r = (reach_stays s t r).forward

-- ---- a rollback is adopted
adopted_named : (s : MarksState) (id by x : ℕ) (changes : List Change) (undone : List RowChange) → named_in (with_rollback s id by changes undone).trans x ≡ named_in s.trans x + one_if (id == x)
adopted_named s id by x changes undone =
    let push = push_named s.trans.rollbacks (left_open id changes (nat_lt 0 (length undone))) x in
    omega (arith, push)

other_named : (a b : ℕ) → a < b → one_if (a == b) ≡ 0
other_named a b less = ap one_if (ne_eqb a b (λ e. absurd (let q = e in omega (arith, less, q))))

-- a number by which one may be adopted names none
not_false : (b : Bool) → not b ≡ true → b ≡ false
not_false true e = absurd cc
not_false false e = refl

new_name : (s : MarksState) (id : ℕ) (changes : List Change) → may_adopt s id changes ≡ true → named_among s.trans.rollbacks id ≡ 0
new_name s id changes e =
    let agent = and_parts (is_agent s 1) (is_free (slot_tran s 1).stage && (not (is_postponed s.locks id) && (not (is_empty changes) && is_new s.trans id))) e in
    let free = and_parts (is_free (slot_tran s 1).stage) (not (is_postponed s.locks id) && (not (is_empty changes) && is_new s.trans id)) agent.1 in
    let waits = and_parts (not (is_postponed s.locks id)) (not (is_empty changes) && is_new s.trans id) free.1 in
    let stands = and_parts (not (is_empty changes)) (is_new s.trans id) waits.1 in
    let new = and_parts (not (id == 0)) (not (has_rollback s.trans id)) stands.1 in
    none_placed s.trans.rollbacks 0 id (not_false (has_rollback s.trans id) new.1)

pub counted_adopt : CountedAdopt
counted_adopt c s id by changes undone low free k = cond_both (may_adopt s id changes) (with_rollback s id by changes undone) s (λ z. AreCounted c z)
    (λ e. record {
      last = k.last;
      stable = k.stable;
      below = λ x above.
          let a = adopted_named s id by x changes undone in
          let b = k.below x above in
          let o = other_named id x (omega (arith, low, above)) in
          omega (arith, a, b, o);
      once = λ x some. at_most (new_name s id changes e) x some (id == x) refl;
      free = k.free;
    })
    (λ e. k)
  where
    at_most : named_among s.trans.rollbacks id ≡ 0 → (x : ℕ) → x ≢ 0 → (b : Bool) → (id == x) ≡ b → named_in (with_rollback s id by changes undone).trans x ≤ 1
    at_most new x some true same =
        let a = adopted_named s id by x changes undone in
        let q : id ≡ x = eqb-true id x same in
        let slots = none_there s.trans.slots x some free k.free in
        let rollbacks : named_among s.trans.rollbacks x ≡ 0 = sym (ap (λ (z : ℕ). named_among s.trans.rollbacks z) q) ∙ new in
        let one : one_if (id == x) ≡ 1 = ap one_if same in
        omega (arith, a, slots, rollbacks, one)
    at_most new x some false other =
        let a = adopted_named s id by x changes undone in
        let n = k.once x some in
        let zero : one_if (id == x) ≡ 0 = ap one_if other in
        omega (arith, a, n, zero)

-- ---- the begin
pub counted_begin : CountedBegin
counted_begin c member sizes h new = record {
  last = (let e = ap (λ (z : LogBuffer). z.last) new.marks.log in omega (arith, e));
  stable = (let e = ap (λ (z : LogBuffer). z.stable) new.marks.log in omega (arith, e));
  below = λ id above. none id (above_some c id above);
  once = λ id some. (let e = none id some in omega (arith, e));
  free = subst (λ (z : TransState). AllNameNone z.slots) (sym new.marks.trans) (free_none (sizes.agents + 1));
}
  where
    none : (id : ℕ) → id ≢ 0 → named_in h.marks.trans id ≡ 0
    none id some = ap (λ (z : TransState). named_in z id) new.marks.trans ∙ (let f = free_named (sizes.agents + 1) id some in omega (arith, f))
