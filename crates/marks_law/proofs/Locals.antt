-- What local moves leave of the slots.
use Rattle.std.proofs.Common.{◌≡◌, ℕ, refl, sym, subst, arith, inl, Bool, true, List, [], ◌∷◌, Option, Some, None}
use Rattle.std.specs.Prelude.{◌≢◌, ◌+◌, ◌-◌, ◌&&◌, nat_le, nat_lt, if◌then◌else◌, is_none, length, slice_set}
use Rattle.std.proofs.lemmas.Bool.{and_parts, cond_both, ltb-true}
use Rattle.ds_base.specs.declared.names.PageId.{PageId}
use Rattle.ds_model.specs.Rows.{Spot}
use Rattle.ds_model.specs.declared.fate.Refusal.{Refusal}
use Rattle.ds_model.specs.declared.fate.Refusal.TheVariants as refusal
use Rattle.ds_model.specs.declared.lock.Name.{Name}
use Rattle.lock_names.specs.declared.mode.Mode.{Mode}
use Rattle.lock_manager.specs.declared.claim.Ask.{Ask}
use Rattle.lock_manager.specs.declared.claim.Ask.TheVariants as ask
use Rattle.lock_manager.specs.Claims.{entered as claims_entered, joined}
use Rattle.lock_manager.specs.Managers.{Book, claims_of, held_by, ask_of, is_postponed, with_claims}
use Rattle.member_pool.specs.Frames.{find_page, is_unpinned}
use Rattle.member_pool.specs.Heads.{HeadState, free_in, head_of, pinned_to, placed_in, with_head}
use Rattle.member_trans.specs.declared.fate.Offer.{Offer}
use Rattle.member_trans.specs.declared.fate.Owner.TheVariants as owner
use Rattle.member_trans.specs.declared.fate.Stage.{Stage}
use Rattle.member_trans.specs.declared.fate.Stage.TheVariants as stage
use Rattle.member_trans.specs.Trans.{TransState, tran_at, with_tran, with_room_for, begun, undoing, left_behind, may_begin, after_begin_with, is_free, is_forward, may_refuse, refused_for, refused_as, after_refuse, same_owner, without_offer, may_postpone as may_postpone_tran, after_postpone as tran_postponed, with_postponed as tran_with_postponed}
use Rattle.member_marks.specs.State.{MarksState, agents_of, slot_id, slot_tran, with_heads, with_locks, with_trans}
use Rattle.member_marks.specs.Claims.{is_agent, may_claim, offered_memory}
use Rattle.member_marks.specs.Frames.{may_pin, may_unpin, placed_at}
use Rattle.member_marks.specs.Local.{Local, Claim, Begin, Refuse, Abort, RefuseForMemory, Place, Pin, Unpin, Postpone, WaitFor, Reaches, given_with, entered_at_home, tried_as, with_lock_room, begun_with, after_begin, moved, all_moved}
use Rattle.member_marks.specs.Rollbacks.{retainer, can_postpone, with_postponed, postponed_for_member, after_postpone, waiting_for, spots_of, spot_claimed, claimed, may_adopt, with_rollback}
use Rattle.marks_law.specs.Free.{FreeAdopt, FreeHoldNothing, FreeReach}
use Rattle.marks_law.specs.Slots.{AreSlots, SlotsAdopt, SlotsReach}
use Rattle.marks_law.specs.Transactions.{MovesStay, TransStay, has_tran}
use Rattle.marks_law.proofs.Free.{FreesNone, free_left, frees_set, left_adopted, left_forward, left_postponed}
use Rattle.marks_law.proofs.Staying.{stay_itself, stay_on, stay_same, stay_set}
use Rattle.marks_law.proofs.Kept.{Stands, kept_heads, kept_trans, same_slots, stands_kept, stands_itself, stands_if, stands_locks, stands_slots}
use Rattle.marks_law.proofs.Slots.{set_other, forward_other}
use Rattle.marks_law.proofs.Effects.{kept_offered}
use Rattle.marks_law.proofs.Given.{claims_forward}

-- ---- a lock is tried at home
stands_memory : (s : MarksState) (slot spare event : ℕ) → Stands s (offered_memory (with_locks s (record s.locks { spare = spare })) slot event)
stands_memory s slot spare event = record { agents = refl; slots = λ h. same_slots s.trans _ s.locks.agents h refl refl; free = λ h. record { lists = h.lists; none = h.none } }

stands_given : (s : MarksState) (slot : ℕ) (n : Name) (m : Mode) (spare : ℕ) → is_forward (slot_tran s slot).stage ≡ true → Stands s (with_locks s (given_with s.locks spare slot n m))
stands_given s slot n m spare forward =
    stands_locks s (given_with s.locks spare slot n m) (left_forward s (given_with s.locks spare slot n m) slot (claims_entered (claims_of s.locks slot) n (joined (held_by s.locks slot n) m)) refl refl forward)

at_home : (s : MarksState) (slot : ℕ) (n : Name) (m : Mode) (event : ℕ) (has_memory : Bool) (spare : ℕ) → is_forward (slot_tran s slot).stage ≡ true → Stands s (entered_at_home s slot n m event has_memory spare)
at_home s slot n m event has_memory spare forward = stands_if s _ _ has_memory (λ e. stands_given s slot n m spare forward) (λ e. stands_memory s slot spare event)

tried : (s : MarksState) (slot : ℕ) (n : Name) (m : Mode) (event : ℕ) (has_memory : Bool) (spare : ℕ) (a : Ask) → is_forward (slot_tran s slot).stage ≡ true → Stands s (tried_as s slot n m event has_memory spare a)
tried s slot n m event has_memory spare ask.Have forward = stands_itself s
tried s slot n m event has_memory spare (ask.Conflict by) forward = stands_kept s _ (kept_offered s (owner.Slot slot) (refusal.Held n (slot_id s by)) event)
tried s slot n m event has_memory spare (ask.Postponed by) forward = stands_kept s _ (kept_offered s (owner.Slot slot) (refusal.Retained n by) event)
tried s slot n m event has_memory spare ask.Local forward = at_home s slot n m event has_memory spare forward
tried s slot n m event has_memory spare (ask.Facility more) forward = stands_itself s

-- ---- a transaction begins
begin_other : (t : TransState) (slot : ℕ) → may_begin t slot ≡ true → slot ≢ 0
begin_other t slot may zero = omega (arith, ltb-true 0 slot (and_parts (nat_lt 0 slot) (nat_lt slot (length t.slots) && is_free (tran_at t slot).stage) may).0, zero)

begin_set : (t : TransState) (agents slot n room : ℕ) → AreSlots t agents → slot ≢ 0 → AreSlots (with_room_for (with_tran t slot (begun n)) room) agents
begin_set t agents slot n room h ne =
    let set : AreSlots (with_tran t slot (begun n)) agents = set_other t agents slot (begun n) h ne in
    record { count = set.count; own = set.own; commits = set.commits }

begun_slots : (t : TransState) (agents slot n room : ℕ) → AreSlots t agents → AreSlots (after_begin_with t slot n room) agents
begun_slots t agents slot n room h = cond_both (may_begin t slot) (with_room_for (with_tran t slot (begun n)) room) t (λ (z : TransState). AreSlots z agents)
    (λ e. begin_set t agents slot n room h (begin_other t slot e)) (λ e. h)

begun_frees : (t : TransState) (slot n room : ℕ) → FreesNone t (after_begin_with t slot n room)
begun_frees t slot n room = cond_both (may_begin t slot) (with_room_for (with_tran t slot (begun n)) room) t (λ (z : TransState). FreesNone t z) (λ e. frees_set t slot (begun n) (λ f. absurd cc)) (λ e k f. f)

begun_or_not : (t : TransState) (slot n : ℕ) (has_memory : Bool) (room : ℕ) → FreesNone t (begun_with t slot n has_memory room)
begun_or_not t slot n has_memory room = cond_both has_memory (after_begin_with t slot n room) t (λ (z : TransState). FreesNone t z) (λ e. begun_frees t slot n room) (λ e k f. f)

begun_free : (s : MarksState) (slot n : ℕ) (has_memory : Bool) (lock_room room : ℕ) → FreeHoldNothing s → FreeHoldNothing (with_trans (with_lock_room s lock_room) (begun_with s.trans slot n has_memory room))
begun_free s slot n has_memory lock_room room h = record { lists = h.lists; none = λ k a f. h.none k a (begun_or_not s.trans slot n has_memory room k f) }

stands_begun : (s : MarksState) (slot n : ℕ) (has_memory : Bool) (lock_room room : ℕ) → Stands s (after_begin s slot n has_memory lock_room room)
stands_begun s slot n has_memory lock_room room = stands_if s _ _ (may_begin s.trans slot)
    (λ e. record { agents = refl; slots = λ h. cond_both has_memory (after_begin_with s.trans slot n room) s.trans (λ (z : TransState). AreSlots z s.locks.agents) (λ f. begun_slots s.trans s.locks.agents slot n room h) (λ f. h); free = begun_free s slot n has_memory lock_room room })
    (λ e. stands_itself s)

-- ---- a transaction is refused
abbrev refused_now : TransState → ℕ → Refusal → ℕ → TransState
refused_now t slot r place = record t { slots = slice_set t.slots slot (undoing (tran_at t slot)); refused = Some (record { number = (tran_at t slot).number; refusal = r; place = place }) }

refused_set : (t : TransState) (agents slot : ℕ) (r : Refusal) (place : ℕ) → AreSlots t agents → slot ≢ 0 → AreSlots (refused_now t slot r place) agents
refused_set t agents slot r place h ne =
    let set : AreSlots (with_tran t slot (undoing (tran_at t slot))) agents = set_other t agents slot (undoing (tran_at t slot)) h ne in
    record { count = set.count; own = set.own; commits = set.commits }

refused_slots : (t : TransState) (agents slot : ℕ) (r : Refusal) (place : ℕ) → AreSlots t agents → AreSlots (refused_for t slot r place) agents
refused_slots t agents slot r place h = cond_both (may_refuse t slot) (refused_now t slot r place) t (λ (z : TransState). AreSlots z agents)
    (λ e. refused_set t agents slot r place h (forward_other t agents slot h (and_parts (is_forward (tran_at t slot).stage) (is_none t.refused) e).0)) (λ e. h)

refused_with : (t : TransState) (agents slot : ℕ) (o : Option Offer) → AreSlots t agents → AreSlots (refused_as t slot o) agents
refused_with t agents slot None h = h
refused_with t agents slot (Some o) h = cond_both (same_owner o.owner (owner.Slot slot)) (record (refused_for t slot o.refusal o.place) { offer = None }) t (λ (z : TransState). AreSlots z agents)
    (λ e. same_slots (refused_for t slot o.refusal o.place) (record (refused_for t slot o.refusal o.place) { offer = None }) agents (refused_slots t agents slot o.refusal o.place h) refl refl) (λ e. h)

refuse_slots : (t : TransState) (agents slot : ℕ) → AreSlots t agents → AreSlots (after_refuse t slot) agents
refuse_slots t agents slot h = cond_both (may_refuse t slot) (refused_as t slot t.offer) t (λ (z : TransState). AreSlots z agents) (λ e. refused_with t agents slot t.offer h) (λ e. h)

refused_frees : (t : TransState) (slot : ℕ) (r : Refusal) (place : ℕ) → FreesNone t (refused_for t slot r place)
refused_frees t slot r place = cond_both (may_refuse t slot) (refused_now t slot r place) t (λ (z : TransState). FreesNone t z) (λ e. frees_set t slot (undoing (tran_at t slot)) (λ f. absurd cc)) (λ e k f. f)

refuses_none : (t : TransState) (slot : ℕ) (o : Option Offer) → FreesNone t (refused_as t slot o)
refuses_none t slot None = λ k f. f
refuses_none t slot (Some o) = cond_both (same_owner o.owner (owner.Slot slot)) (record (refused_for t slot o.refusal o.place) { offer = None }) t (λ (z : TransState). FreesNone t z)
    (λ e. refused_frees t slot o.refusal o.place) (λ e k f. f)

refused_stays : (t : TransState) (slot : ℕ) (r : Refusal) (place : ℕ) → TransStay t (refused_for t slot r place)
refused_stays t slot r place = cond_both (may_refuse t slot) (refused_now t slot r place) t (λ (z : TransState). TransStay t z)
    (λ e. stay_on t (with_tran t slot (undoing (tran_at t slot))) (refused_now t slot r place) (stay_set t slot (undoing (tran_at t slot)) (λ h. record { there = refl; named = inl refl }))
    (stay_same (with_tran t slot (undoing (tran_at t slot))) (refused_now t slot r place) refl refl)) (λ e. stay_itself t)

refused_as_stays : (t : TransState) (slot : ℕ) (o : Option Offer) → TransStay t (refused_as t slot o)
refused_as_stays t slot None = stay_itself t
refused_as_stays t slot (Some o) = cond_both (same_owner o.owner (owner.Slot slot)) (record (refused_for t slot o.refusal o.place) { offer = None }) t (λ (z : TransState). TransStay t z)
    (λ e. stay_on t (refused_for t slot o.refusal o.place) (record (refused_for t slot o.refusal o.place) { offer = None }) (refused_stays t slot o.refusal o.place)
    (stay_same (refused_for t slot o.refusal o.place) (record (refused_for t slot o.refusal o.place) { offer = None }) refl refl)) (λ e. stay_itself t)

refuse_stays : (t : TransState) (slot : ℕ) → TransStay t (after_refuse t slot)
refuse_stays t slot = cond_both (may_refuse t slot) (refused_as t slot t.offer) t (λ (z : TransState). TransStay t z) (λ e. refused_as_stays t slot t.offer) (λ e. stay_itself t)

refuse_frees : (t : TransState) (slot : ℕ) → FreesNone t (after_refuse t slot)
refuse_frees t slot = cond_both (may_refuse t slot) (refused_as t slot t.offer) t (λ (z : TransState). FreesNone t z) (λ e. refuses_none t slot t.offer) (λ e k f. f)

-- ---- pages are placed and pinned
stands_heads : (s : MarksState) (b : Bool) (h : HeadState) → Stands s (if b then with_heads s h else s)
stands_heads s b h = stands_if s _ _ b (λ e. stands_kept s (with_heads s h) (kept_heads s h)) (λ e. stands_itself s)

placed : (s : MarksState) (p : PageId) (o : Option ℕ) → Stands s (placed_at s p o)
placed s p None = stands_itself s
placed s p (Some at) = stands_heads s (is_unpinned (head_of s.heads at)) (placed_in s.heads at p)

-- ---- a rollback is postponed
postponed_set : (t : TransState) (agents slot : ℕ) → AreSlots t agents → slot ≢ 0 → AreSlots (tran_with_postponed t slot (tran_at t slot)) agents
postponed_set t agents slot h ne =
    let set : AreSlots (with_tran t slot (left_behind (tran_at t slot))) agents = set_other t agents slot (left_behind (tran_at t slot)) h ne in
    record { count = set.count; own = set.own; commits = set.commits }

postponed_slots : (t : TransState) (agents slot : ℕ) → AreSlots t agents → slot ≢ 0 → AreSlots (tran_postponed t slot) agents
postponed_slots t agents slot h ne = cond_both (may_postpone_tran t slot) (tran_with_postponed t slot (tran_at t slot)) t (λ (z : TransState). AreSlots z agents)
    (λ e. postponed_set t agents slot h ne) (λ e. h)

postponed_frees : (t : TransState) (slot : ℕ) → FreesNone t (tran_postponed t slot)
postponed_frees t slot = cond_both (may_postpone_tran t slot) (tran_with_postponed t slot (tran_at t slot)) t (λ (z : TransState). FreesNone t z) (λ e. frees_set t slot (left_behind (tran_at t slot)) (λ f. absurd cc)) (λ e k f. f)

postponed_by : (s : MarksState) (slot : ℕ) (by : Option ℕ) → slot ≢ 0 → Stands s (postponed_for_member s slot by)
postponed_by s slot None ne = stands_itself s
postponed_by s slot (Some by) ne = record {
  agents = refl;
  slots = λ h. same_slots (tran_postponed s.trans slot) _ s.locks.agents (postponed_slots s.trans s.locks.agents slot h ne) refl refl;
  free = free_left s (with_postponed s slot by) (left_postponed s slot (slot_tran s slot).first by) (postponed_frees s.trans slot);
}

agent_other : (s : MarksState) (slot : ℕ) (b : Bool) → (is_agent s slot && b) ≡ true → slot ≢ 0
agent_other s slot b e zero = omega (arith, ltb-true 0 slot (and_parts (nat_lt 0 slot) (nat_le slot (agents_of s)) (and_parts (is_agent s slot) b e).0).0, zero)

stands_postponed : (s : MarksState) (slot : ℕ) → Stands s (after_postpone s slot)
stands_postponed s slot = stands_if s _ _ (can_postpone s slot) (λ e. postponed_by s slot (retainer s (owner.Slot slot)) (agent_other s slot _ e)) (λ e. stands_itself s)

waits_by : (s : MarksState) (id : ℕ) (by : Option ℕ) → Stands s (waiting_for s id by)
waits_by s id None = stands_itself s
waits_by s id (Some by) = record { agents = refl; slots = λ h. same_slots s.trans (without_offer s.trans) s.locks.agents h refl refl; free = λ h. record { lists = h.lists; none = h.none } }

-- ---- any of them
stands_moved : (s : MarksState) (x : Local) → Stands s (moved x s)
stands_moved s (Claim slot n m has_memory spare) = stands_if s _ _ (may_claim s slot n) (λ e. tried s slot n m s.trans.place has_memory spare (ask_of s.locks slot n m) (claims_forward s slot n e)) (λ e. stands_itself s)
stands_moved s (Begin slot n has_memory lock_room room) = stands_begun s slot n has_memory lock_room room
stands_moved s (Refuse slot) = stands_kept s _ (kept_trans s (after_refuse s.trans slot) (refuse_slots s.trans s.locks.agents slot) (refuse_frees s.trans slot) (refuse_stays s.trans slot))
stands_moved s (Abort slot) = stands_kept s _ (kept_trans s (refused_for s.trans slot refusal.Aborted s.trans.place) (refused_slots s.trans s.locks.agents slot refusal.Aborted s.trans.place) (refused_frees s.trans slot refusal.Aborted s.trans.place) (refused_stays s.trans slot refusal.Aborted s.trans.place))
stands_moved s (RefuseForMemory slot) = stands_kept s _ (kept_trans s (refused_for s.trans slot refusal.Memory s.trans.place) (refused_slots s.trans s.locks.agents slot refusal.Memory s.trans.place) (refused_frees s.trans slot refusal.Memory s.trans.place) (refused_stays s.trans slot refusal.Memory s.trans.place))
stands_moved s (Place p) = stands_if s _ _ (is_none (find_page s.heads.frames p)) (λ e. placed s p (free_in s.heads)) (λ e. stands_itself s)
stands_moved s (Pin at) = stands_heads s (may_pin s.heads at) (pinned_to s.heads at ((head_of s.heads at).pins + 1))
stands_moved s (Unpin at) = stands_heads s (may_unpin s.heads at) (with_head s.heads at (record (head_of s.heads at) { pins = (head_of s.heads at).pins - 1 }))
stands_moved s (Postpone slot) = stands_postponed s slot
stands_moved s (WaitFor id) = stands_if s _ _ (is_postponed s.locks id) (λ e. waits_by s id (retainer s (owner.Rollback id))) (λ e. stands_itself s)

-- ---- transactions stay
at_home_stays : (s : MarksState) (slot : ℕ) (n : Name) (m : Mode) (event : ℕ) (has_memory : Bool) (spare : ℕ) → TransStay s.trans (entered_at_home s slot n m event has_memory spare).trans
at_home_stays s slot n m event has_memory spare = cond_both has_memory (with_locks s (given_with s.locks spare slot n m)) (offered_memory (with_locks s (record s.locks { spare = spare })) slot event) (λ (z : MarksState). TransStay s.trans z.trans)
    (λ e. stay_itself s.trans) (λ e. stay_same s.trans _ refl refl)

tried_stays : (s : MarksState) (slot : ℕ) (n : Name) (m : Mode) (event : ℕ) (has_memory : Bool) (spare : ℕ) (a : Ask) → TransStay s.trans (tried_as s slot n m event has_memory spare a).trans
tried_stays s slot n m event has_memory spare ask.Have = stay_itself s.trans
tried_stays s slot n m event has_memory spare (ask.Conflict by) = stay_same s.trans _ refl refl
tried_stays s slot n m event has_memory spare (ask.Postponed by) = stay_same s.trans _ refl refl
tried_stays s slot n m event has_memory spare ask.Local = at_home_stays s slot n m event has_memory spare
tried_stays s slot n m event has_memory spare (ask.Facility more) = stay_itself s.trans

-- a slot in which one begins had none
free_slot : (x : Stage) → is_free x ≡ true → has_tran x ≡ true → ⊥
free_slot stage.Free a b = cc
free_slot stage.Forward a b = cc
free_slot stage.Drawn a b = cc
free_slot stage.Decided a b = cc
free_slot stage.Undoing a b = cc
free_slot stage.Postponed a b = cc

begins_free : (t : TransState) (slot : ℕ) → may_begin t slot ≡ true → is_free (tran_at t slot).stage ≡ true
begins_free t slot may =
    (and_parts (nat_lt slot (length t.slots)) (is_free (tran_at t slot).stage) (and_parts (nat_lt 0 slot) (nat_lt slot (length t.slots) && is_free (tran_at t slot).stage) may).1).1

begun_stays : (t : TransState) (slot n room : ℕ) → TransStay t (after_begin_with t slot n room)
begun_stays t slot n room = cond_both (may_begin t slot) (with_room_for (with_tran t slot (begun n)) room) t (λ (z : TransState). TransStay t z)
    (λ e. stay_on t (with_tran t slot (begun n)) (with_room_for (with_tran t slot (begun n)) room) (stay_set t slot (begun n) (λ h. absurd (free_slot (tran_at t slot).stage (begins_free t slot e) h)))
    (stay_same (with_tran t slot (begun n)) (with_room_for (with_tran t slot (begun n)) room) refl refl)) (λ e. stay_itself t)

begins_stay : (s : MarksState) (slot n : ℕ) (has_memory : Bool) (lock_room room : ℕ) → TransStay s.trans (after_begin s slot n has_memory lock_room room).trans
begins_stay s slot n has_memory lock_room room = cond_both (may_begin s.trans slot) (with_trans (with_lock_room s lock_room) (begun_with s.trans slot n has_memory room)) s (λ (z : MarksState). TransStay s.trans z.trans)
    (λ e. cond_both has_memory (after_begin_with s.trans slot n room) s.trans (λ (z : TransState). TransStay s.trans z) (λ f. begun_stays s.trans slot n room) (λ f. stay_itself s.trans)) (λ e. stay_itself s.trans)

heads_stay : (s : MarksState) (b : Bool) (h : HeadState) → TransStay s.trans (if b then with_heads s h else s).trans
heads_stay s b h = cond_both b (with_heads s h) s (λ (z : MarksState). TransStay s.trans z.trans) (λ e. stay_itself s.trans) (λ e. stay_itself s.trans)

placed_stays : (s : MarksState) (p : PageId) (o : Option ℕ) → TransStay s.trans (placed_at s p o).trans
placed_stays s p None = stay_itself s.trans
placed_stays s p (Some at) = heads_stay s (is_unpinned (head_of s.heads at)) (placed_in s.heads at p)

waits_stay : (s : MarksState) (id : ℕ) (by : Option ℕ) → TransStay s.trans (waiting_for s id by).trans
waits_stay s id None = stay_itself s.trans
waits_stay s id (Some by) = stay_same s.trans (without_offer s.trans) refl refl

pub moves_stay : MovesStay
moves_stay s (Claim slot n m has_memory spare) other = cond_both (may_claim s slot n) (tried_as s slot n m s.trans.place has_memory spare (ask_of s.locks slot n m)) s (λ (z : MarksState). TransStay s.trans z.trans)
    (λ e. tried_stays s slot n m s.trans.place has_memory spare (ask_of s.locks slot n m)) (λ e. stay_itself s.trans)
moves_stay s (Begin slot n has_memory lock_room room) other = begins_stay s slot n has_memory lock_room room
moves_stay s (Refuse slot) other = refuse_stays s.trans slot
moves_stay s (Abort slot) other = refused_stays s.trans slot refusal.Aborted s.trans.place
moves_stay s (RefuseForMemory slot) other = refused_stays s.trans slot refusal.Memory s.trans.place
moves_stay s (Place p) other = cond_both (is_none (find_page s.heads.frames p)) (placed_at s p (free_in s.heads)) s (λ (z : MarksState). TransStay s.trans z.trans) (λ e. placed_stays s p (free_in s.heads)) (λ e. stay_itself s.trans)
moves_stay s (Pin at) other = heads_stay s (may_pin s.heads at) (pinned_to s.heads at ((head_of s.heads at).pins + 1))
moves_stay s (Unpin at) other = heads_stay s (may_unpin s.heads at) (with_head s.heads at (record (head_of s.heads at) { pins = (head_of s.heads at).pins - 1 }))
moves_stay s (Postpone slot) other = absurd cc
moves_stay s (WaitFor id) other = cond_both (is_postponed s.locks id) (waiting_for s id (retainer s (owner.Rollback id))) s (λ (z : MarksState). TransStay s.trans z.trans) (λ e. waits_stay s id (retainer s (owner.Rollback id))) (λ e. stay_itself s.trans)

all_stand : (xs : List Local) (s t : MarksState) → t ≡ all_moved xs s → AreSlots s.trans s.locks.agents → AreSlots t.trans t.locks.agents
all_stand [] s t e h = subst (λ (z : MarksState). AreSlots z.trans z.locks.agents) (sym e) h
all_stand (x ∷ xs) s t e h = all_stand xs (moved x s) t e (stands_slots s (moved x s) (stands_moved s x) h)

pub slots_reach : SlotsReach
unfolding Reaches
slots_reach s t r h = all_stand r.0 s t r.1 h

all_free : (xs : List Local) (s t : MarksState) → t ≡ all_moved xs s → FreeHoldNothing s → FreeHoldNothing t
all_free [] s t e h = subst (λ (z : MarksState). FreeHoldNothing z) (sym e) h
all_free (x ∷ xs) s t e h = all_free xs (moved x s) t e ((stands_moved s x).free h)

pub free_reach : FreeReach
unfolding Reaches
free_reach s t r h = all_free r.0 s t r.1 h

-- ---- a rollback is adopted
claimed_agents : (b : Book) (ss : List Spot) → (claimed b ss).agents ≡ b.agents
claimed_agents b [] = refl
claimed_agents b (s ∷ ss) = claimed_agents (spot_claimed b s) ss

pub slots_adopt : SlotsAdopt
slots_adopt s id by changes undone h = cond_both (may_adopt s id changes) (with_rollback s id by changes undone) s (λ (z : MarksState). AreSlots z.trans z.locks.agents)
    (λ e. subst (λ z. AreSlots (with_rollback s id by changes undone).trans z) (sym (claimed_agents (with_claims s.locks 1 []) (spots_of changes undone))) (record { count = h.count; own = h.own; commits = h.commits })) (λ e. h)

pub free_adopt : FreeAdopt
free_adopt s id by changes undone h = cond_both (may_adopt s id changes) (with_rollback s id by changes undone) s (λ (z : MarksState). FreeHoldNothing z)
    (λ e. free_left s (with_rollback s id by changes undone) (left_adopted s id by (spots_of changes undone) (claimed_agents (with_claims s.locks 1 []) (spots_of changes undone))) (λ slot f. f) h) (λ e. h)
