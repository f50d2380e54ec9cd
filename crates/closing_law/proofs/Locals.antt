-- What local moves leave closed.
use Rattle.std.proofs.Common.{◌≡◌, ℕ, refl, sym, ◌∙◌, ap, subst, Bool, true, false, List, [], ◌∷◌, ◌++◌, Option, Some, None}
use Rattle.std.specs.Prelude.{◌≢◌, ◌+◌, ◌-◌, ◌&&◌, nat_lt, not, if◌then◌else◌, is_none, length, slice_set}
use Rattle.std.specs.List.{AllByRecursion}
use Rattle.std.proofs.lemmas.Bool.{and_parts, cond_both}
use Rattle.ds_base.specs.declared.names.PageId.{PageId}
use Rattle.ds_model.specs.declared.fate.Refusal.{Refusal}
use Rattle.ds_model.specs.declared.fate.Refusal.TheVariants as refusal
use Rattle.ds_model.specs.declared.lock.Name.{Name}
use Rattle.ds_model.specs.declared.log.LogRecord.{LogRecord}
use Rattle.lock_names.specs.declared.mode.Mode.{Mode}
use Rattle.lock_manager.specs.declared.claim.Ask.{Ask}
use Rattle.lock_manager.specs.declared.claim.Ask.TheVariants as ask
use Rattle.lock_manager.specs.Managers.{ask_of, is_postponed}
use Rattle.member_pool.specs.Frames.{find_page, is_unpinned}
use Rattle.member_pool.specs.Heads.{HeadState, free_in, head_of, pinned_to, placed_in, with_head}
use Rattle.member_trans.specs.declared.fate.Offer.{Offer}
use Rattle.member_trans.specs.declared.fate.Owner.TheVariants as owner
use Rattle.member_trans.specs.declared.fate.Stage.{Stage}
use Rattle.member_trans.specs.declared.fate.Stage.TheVariants as stage
use Rattle.member_trans.specs.Trans.{TransState, TranState, after_begin_with, after_postpone as tran_postponed, after_refuse, begun, can_postpone as can_postpone_tran, free_tran, has_room_for, is_drawn, is_empty, is_forward, is_free, is_undoing, left_behind, may_begin, may_postpone as may_postpone_tran, may_refuse, refused_as, refused_for, same_owner, tran_at, undoing, with_postponed as tran_with_postponed, with_room_for, with_tran, without_offer}
use Rattle.member_marks.specs.State.{MarksState, slot_id, slot_tran, with_heads, with_locks, with_trans}
use Rattle.member_marks.specs.Claims.{may_claim, offered_memory}
use Rattle.member_marks.specs.Frames.{may_pin, may_unpin, placed_at}
use Rattle.member_marks.specs.Local.{Local, Claim, Begin, Refuse, Abort, RefuseForMemory, Place, Pin, Unpin, Postpone, WaitFor, Reaches, given_with, entered_at_home, tried_as, with_lock_room, begun_with, after_begin, moved, all_moved}
use Rattle.member_marks.specs.Rollbacks.{retainer, can_postpone, with_postponed, postponed_for_member, after_postpone, waiting_for}
use Rattle.closing_law.specs.Closing.{AllStand, ClosesReach, TranStands, Waits}
use Rattle.closing_law.proofs.Effects.{stays_offered}
use Rattle.closing_law.proofs.Kept.{Leaves, Stays, stays_as, stays_heads, stays_if, stays_itself, stays_left, stays_lists, stays_locks, stays_on, stays_trans}
use Rattle.closing_law.proofs.Lists.{all_push}
use Rattle.closing_law.proofs.Records.{change_waits}
use Rattle.closing_law.proofs.Trans.{forward_only, like, owner_stands, same_lists, set_slot, undoing_only}

-- ---- a lock is tried at home
at_home : (s : MarksState) (slot : ℕ) (n : Name) (m : Mode) (event : ℕ) (has_memory : Bool) (spare : ℕ) → Stays s (entered_at_home s slot n m event has_memory spare)
at_home s slot n m event has_memory spare = stays_if s _ _ has_memory (λ e. stays_locks s (given_with s.locks spare slot n m)) (λ e. stays_lists s (offered_memory (with_locks s (record s.locks { spare = spare })) slot event) refl refl refl refl refl)

tried : (s : MarksState) (slot : ℕ) (n : Name) (m : Mode) (event : ℕ) (has_memory : Bool) (spare : ℕ) (a : Ask) → Stays s (tried_as s slot n m event has_memory spare a)
tried s slot n m event has_memory spare ask.Have = stays_itself s
tried s slot n m event has_memory spare (ask.Conflict by) = stays_offered s (owner.Slot slot) (refusal.Held n (slot_id s by)) event
tried s slot n m event has_memory spare (ask.Postponed by) = stays_offered s (owner.Slot slot) (refusal.Retained n by) event
tried s slot n m event has_memory spare ask.Local = at_home s slot n m event has_memory spare
tried s slot n m event has_memory spare (ask.Facility more) = stays_itself s

-- ---- a transaction begins
begun_stands : (disk pend : List LogRecord) (stable n : ℕ) → TranStands disk pend stable (begun n)
begun_stands disk pend stable n = record { changed = λ e some. absurd (some refl); decided = λ e. absurd cc; undone = λ e. absurd cc }

free_only : (x : Stage) → is_free x ≡ true → is_drawn x ≡ true → ⊥
free_only stage.Free a b = cc
free_only stage.Forward a b = cc
free_only stage.Drawn a b = cc
free_only stage.Decided a b = cc
free_only stage.Undoing a b = cc
free_only stage.Postponed a b = cc

free_before : (t : TransState) (slot : ℕ) → may_begin t slot ≡ true → is_free (tran_at t slot).stage ≡ true
free_before t slot may = (and_parts (nat_lt slot (length t.slots)) (is_free (tran_at t slot).stage) (and_parts (nat_lt 0 slot) (nat_lt slot (length t.slots) && is_free (tran_at t slot).stage) may).1).1

begins_slot : (s : MarksState) (slot n room : ℕ) → Leaves s (after_begin_with s.trans slot n room)
begins_slot s slot n room disk pend h = cond_both (may_begin s.trans slot) (with_room_for (with_tran s.trans slot (begun n)) room) s.trans (λ (z : TransState). AllStand disk pend s.log.stable z)
    (λ e. same_lists disk pend s.log.stable (with_tran s.trans slot (begun n)) (with_room_for (with_tran s.trans slot (begun n)) room) refl refl refl
    (set_slot disk pend s.log.stable s.trans slot (begun n) h (begun_stands disk pend s.log.stable n) (λ w. absurd (free_only (tran_at s.trans slot).stage (free_before s.trans slot e) w.drawn))))
    (λ e. h)

begins : (s : MarksState) (slot n : ℕ) (has_memory : Bool) (lock_room room : ℕ) → Stays s (after_begin s slot n has_memory lock_room room)
begins s slot n has_memory lock_room room = stays_if s _ _ (may_begin s.trans slot)
    (λ e. stays_left s (with_trans (with_lock_room s lock_room) (begun_with s.trans slot n has_memory room)) refl refl
    (λ disk pend h. cond_both has_memory (after_begin_with s.trans slot n room) s.trans (λ (z : TransState). AllStand disk pend s.log.stable z) (λ f. begins_slot s slot n room disk pend h) (λ f. h)))
    (λ e. stays_itself s)

-- ---- a transaction that goes forward is refused
abbrev refused_now : TransState → ℕ → Refusal → ℕ → TransState
refused_now t slot r place = record t { slots = slice_set t.slots slot (undoing (tran_at t slot)); refused = Some (record { number = (tran_at t slot).number; refusal = r; place = place }) }

both_ways : (b : Bool) → b ≡ false → b ≡ true → ⊥
both_ways b p q = cc

undoing_stands : (disk pend : List LogRecord) (stable : ℕ) (t : TranState) → is_forward t.stage ≡ true → TranStands disk pend stable t → TranStands disk pend stable (undoing t)
undoing_stands disk pend stable t forward h = record { changed = λ e. absurd cc; decided = λ e. absurd cc; undone = λ e some empty. absurd (both_ways (is_empty t.changes) (h.changed forward some) empty) }

refuses_slot : (s : MarksState) (slot : ℕ) (r : Refusal) (place : ℕ) → Leaves s (refused_for s.trans slot r place)
refuses_slot s slot r place disk pend h = cond_both (may_refuse s.trans slot) (refused_now s.trans slot r place) s.trans (λ (z : TransState). AllStand disk pend s.log.stable z)
    (λ e. let forward = (and_parts (is_forward (tran_at s.trans slot).stage) (is_none s.trans.refused) e).0 in
    same_lists disk pend s.log.stable (with_tran s.trans slot (undoing (tran_at s.trans slot))) (refused_now s.trans slot r place) refl refl refl
    (set_slot disk pend s.log.stable s.trans slot (undoing (tran_at s.trans slot)) h (undoing_stands disk pend s.log.stable (tran_at s.trans slot) forward (owner_stands disk pend s.log.stable s.trans (owner.Slot slot) h))
    (change_waits pend (tran_at s.trans slot) (undoing (tran_at s.trans slot)) forward)))
    (λ e. h)

refuses_as : (s : MarksState) (slot : ℕ) (o : Option Offer) → Leaves s (refused_as s.trans slot o)
refuses_as s slot None disk pend h = h
refuses_as s slot (Some o) disk pend h = cond_both (same_owner o.owner (owner.Slot slot)) (record (refused_for s.trans slot o.refusal o.place) { offer = None }) s.trans (λ (z : TransState). AllStand disk pend s.log.stable z)
    (λ e. same_lists disk pend s.log.stable (refused_for s.trans slot o.refusal o.place) (record (refused_for s.trans slot o.refusal o.place) { offer = None }) refl refl refl (refuses_slot s slot o.refusal o.place disk pend h)) (λ e. h)

refuses : (s : MarksState) (slot : ℕ) → Leaves s (after_refuse s.trans slot)
refuses s slot disk pend h = cond_both (may_refuse s.trans slot) (refused_as s.trans slot s.trans.offer) s.trans (λ (z : TransState). AllStand disk pend s.log.stable z) (λ e. refuses_as s slot s.trans.offer disk pend h) (λ e. h)

-- ---- pages are placed and pinned
heads : (s : MarksState) (b : Bool) (h : HeadState) → Stays s (if b then with_heads s h else s)
heads s b h = stays_if s _ _ b (λ e. stays_heads s h) (λ e. stays_itself s)

placed : (s : MarksState) (p : PageId) (o : Option ℕ) → Stays s (placed_at s p o)
placed s p None = stays_itself s
placed s p (Some at) = heads s (is_unpinned (head_of s.heads at)) (placed_in s.heads at p)

-- ---- a rollback is postponed
behind_stands : (disk pend : List LogRecord) (stable : ℕ) (t : TranState) → TranStands disk pend stable (left_behind t)
behind_stands disk pend stable t = record { changed = λ e. absurd cc; decided = λ e. absurd cc; undone = λ e. absurd cc }

postponed_slot : (s : MarksState) (slot : ℕ) → Leaves s (tran_postponed s.trans slot)
postponed_slot s slot disk pend h = cond_both (may_postpone_tran s.trans slot) (tran_with_postponed s.trans slot (tran_at s.trans slot)) s.trans (λ (z : TransState). AllStand disk pend s.log.stable z)
    (λ e. let t : TranState = tran_at s.trans slot in
    let undone = (and_parts (is_undoing t.stage) (not (is_empty t.changes) && has_room_for s.trans t.first) e).0 in
    let set = set_slot disk pend s.log.stable s.trans slot (left_behind t) h (behind_stands disk pend s.log.stable t) (λ w. absurd ((undoing_only t.stage undone).2 w.drawn)) in
    record { slots = set.slots; rollbacks = all_push (TranStands disk pend s.log.stable) s.trans.rollbacks t h.rollbacks (owner_stands disk pend s.log.stable s.trans (owner.Slot slot) h); commits = set.commits })
    (λ e. h)

postponed_by : (s : MarksState) (slot : ℕ) (by : Option ℕ) → Stays s (postponed_for_member s slot by)
postponed_by s slot None = stays_itself s
postponed_by s slot (Some by) = stays_left s (with_postponed s slot by) refl refl
    (λ disk pend h. same_lists disk pend s.log.stable (tran_postponed s.trans slot) (without_offer (tran_postponed s.trans slot)) refl refl refl (postponed_slot s slot disk pend h))

waits_by : (s : MarksState) (id : ℕ) (by : Option ℕ) → Stays s (waiting_for s id by)
waits_by s id None = stays_itself s
waits_by s id (Some by) = stays_lists s (waiting_for s id (Some by)) refl refl refl refl refl

-- ---- any of them
stays_moved : (s : MarksState) (x : Local) → Stays s (moved x s)
stays_moved s (Claim slot n m has_memory spare) = stays_if s _ _ (may_claim s slot n) (λ e. tried s slot n m s.trans.place has_memory spare (ask_of s.locks slot n m)) (λ e. stays_itself s)
stays_moved s (Begin slot n has_memory lock_room room) = begins s slot n has_memory lock_room room
stays_moved s (Refuse slot) = stays_trans s (after_refuse s.trans slot) (refuses s slot)
stays_moved s (Abort slot) = stays_trans s (refused_for s.trans slot refusal.Aborted s.trans.place) (refuses_slot s slot refusal.Aborted s.trans.place)
stays_moved s (RefuseForMemory slot) = stays_trans s (refused_for s.trans slot refusal.Memory s.trans.place) (refuses_slot s slot refusal.Memory s.trans.place)
stays_moved s (Place p) = stays_if s _ _ (is_none (find_page s.heads.frames p)) (λ e. placed s p (free_in s.heads)) (λ e. stays_itself s)
stays_moved s (Pin at) = heads s (may_pin s.heads at) (pinned_to s.heads at ((head_of s.heads at).pins + 1))
stays_moved s (Unpin at) = heads s (may_unpin s.heads at) (with_head s.heads at (record (head_of s.heads at) { pins = (head_of s.heads at).pins - 1 }))
stays_moved s (Postpone slot) = stays_if s _ _ (can_postpone s slot) (λ e. postponed_by s slot (retainer s (owner.Slot slot))) (λ e. stays_itself s)
stays_moved s (WaitFor id) = stays_if s _ _ (is_postponed s.locks id) (λ e. waits_by s id (retainer s (owner.Rollback id))) (λ e. stays_itself s)

all_stay : (xs : List Local) (s : MarksState) → Stays s (all_moved xs s)
all_stay [] s = stays_itself s
all_stay (x ∷ xs) s = stays_on s (moved x s) (all_moved xs (moved x s)) (stays_moved s x) (all_stay xs (moved x s))

pub reach_stays : (s t : MarksState) → Reaches s t → Stays s t
unfolding Reaches
reach_stays s t r = stays_as s t (all_moved r.0 s) r.1 (all_stay r.0 s)

pub closes_reach : ClosesReach
closes_reach disk pend s t r c = (reach_stays s t r).closes disk pend c
