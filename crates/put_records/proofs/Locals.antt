-- The log buffer behind local moves.
use Rattle.std.proofs.Common.{ℕ, ◌+◌, refl, Bool, List, [], ◌∷◌, Option, Some, None}
use Rattle.std.specs.Prelude.{◌-◌, if◌then◌else◌, is_none}
use Rattle.ds_base.specs.declared.names.PageId.{PageId}
use Rattle.ds_model.specs.declared.fate.Refusal.TheVariants as refusal
use Rattle.ds_model.specs.declared.lock.Name.{Name}
use Rattle.lock_names.specs.declared.mode.Mode.{Mode}
use Rattle.lock_manager.specs.declared.claim.Ask.{Ask}
use Rattle.lock_manager.specs.declared.claim.Ask.TheVariants as ask
use Rattle.lock_manager.specs.Managers.{ask_of, is_postponed}
use Rattle.member_pool.specs.Frames.{find_page, is_unpinned}
use Rattle.member_pool.specs.Heads.{HeadState, free_in, head_of, pinned_to, placed_in, with_head}
use Rattle.member_trans.specs.declared.fate.Owner.TheVariants as owner
use Rattle.member_trans.specs.Trans.{after_refuse, may_begin, refused_for}
use Rattle.member_marks.specs.State.{MarksState, slot_id, with_heads, with_locks, with_trans}
use Rattle.member_marks.specs.Claims.{may_claim, offered_memory}
use Rattle.member_marks.specs.Frames.{may_pin, may_unpin, placed_at}
use Rattle.member_marks.specs.Local.{Local, Claim, Begin, Refuse, Abort, RefuseForMemory, Place, Pin, Unpin, Postpone, WaitFor, Reaches, given_with, entered_at_home, tried_as, with_lock_room, begun_with, after_begin, moved, all_moved}
use Rattle.member_marks.specs.Rollbacks.{can_postpone, postponed_for_member, retainer, waiting_for, with_postponed}
use Rattle.put_records.proofs.Effects.{stays_offered}
use Rattle.put_records.proofs.Stays.{Stays, stays_as, stays_heads, stays_if, stays_itself, stays_locks, stays_log, stays_on, stays_trans}

-- ---- a lock is tried at home
at_home : (s : MarksState) (slot : ℕ) (n : Name) (m : Mode) (event : ℕ) (has_memory : Bool) (spare : ℕ) → Stays s (entered_at_home s slot n m event has_memory spare)
at_home s slot n m event has_memory spare = stays_if s _ _ has_memory (stays_locks s (given_with s.locks spare slot n m)) (stays_log s (offered_memory (with_locks s (record s.locks { spare = spare })) slot event) refl)

tried : (s : MarksState) (slot : ℕ) (n : Name) (m : Mode) (event : ℕ) (has_memory : Bool) (spare : ℕ) (a : Ask) → Stays s (tried_as s slot n m event has_memory spare a)
tried s slot n m event has_memory spare ask.Have = stays_itself s
tried s slot n m event has_memory spare (ask.Conflict by) = stays_offered s (owner.Slot slot) (refusal.Held n (slot_id s by)) event
tried s slot n m event has_memory spare (ask.Postponed by) = stays_offered s (owner.Slot slot) (refusal.Retained n by) event
tried s slot n m event has_memory spare ask.Local = at_home s slot n m event has_memory spare
tried s slot n m event has_memory spare (ask.Facility more) = stays_itself s

-- ---- a transaction begins
begins : (s : MarksState) (slot n : ℕ) (has_memory : Bool) (lock_room room : ℕ) → Stays s (after_begin s slot n has_memory lock_room room)
begins s slot n has_memory lock_room room = stays_if s _ _ (may_begin s.trans slot) (stays_log s (with_trans (with_lock_room s lock_room) (begun_with s.trans slot n has_memory room)) refl) (stays_itself s)

-- ---- pages are placed and pinned
heads : (s : MarksState) (b : Bool) (h : HeadState) → Stays s (if b then with_heads s h else s)
heads s b h = stays_if s _ _ b (stays_heads s h) (stays_itself s)

placed : (s : MarksState) (p : PageId) (o : Option ℕ) → Stays s (placed_at s p o)
placed s p None = stays_itself s
placed s p (Some at) = heads s (is_unpinned (head_of s.heads at)) (placed_in s.heads at p)

-- ---- a rollback is postponed
postponed_by : (s : MarksState) (slot : ℕ) (by : Option ℕ) → Stays s (postponed_for_member s slot by)
postponed_by s slot None = stays_itself s
postponed_by s slot (Some by) = stays_log s (with_postponed s slot by) refl

waits_by : (s : MarksState) (id : ℕ) (by : Option ℕ) → Stays s (waiting_for s id by)
waits_by s id None = stays_itself s
waits_by s id (Some by) = stays_log s (waiting_for s id (Some by)) refl

-- ---- any of them
stays_moved : (s : MarksState) (x : Local) → Stays s (moved x s)
stays_moved s (Claim slot n m has_memory spare) = stays_if s _ _ (may_claim s slot n) (tried s slot n m s.trans.place has_memory spare (ask_of s.locks slot n m)) (stays_itself s)
stays_moved s (Begin slot n has_memory lock_room room) = begins s slot n has_memory lock_room room
stays_moved s (Refuse slot) = stays_trans s (after_refuse s.trans slot)
stays_moved s (Abort slot) = stays_trans s (refused_for s.trans slot refusal.Aborted s.trans.place)
stays_moved s (RefuseForMemory slot) = stays_trans s (refused_for s.trans slot refusal.Memory s.trans.place)
stays_moved s (Place p) = stays_if s _ _ (is_none (find_page s.heads.frames p)) (placed s p (free_in s.heads)) (stays_itself s)
stays_moved s (Pin at) = heads s (may_pin s.heads at) (pinned_to s.heads at ((head_of s.heads at).pins + 1))
stays_moved s (Unpin at) = heads s (may_unpin s.heads at) (with_head s.heads at (record (head_of s.heads at) { pins = (head_of s.heads at).pins - 1 }))
stays_moved s (Postpone slot) = stays_if s _ _ (can_postpone s slot) (postponed_by s slot (retainer s (owner.Slot slot))) (stays_itself s)
stays_moved s (WaitFor id) = stays_if s _ _ (is_postponed s.locks id) (waits_by s id (retainer s (owner.Rollback id))) (stays_itself s)

all_stay : (xs : List Local) (s : MarksState) → Stays s (all_moved xs s)
all_stay [] s = stays_itself s
all_stay (x ∷ xs) s = stays_on s (moved x s) (all_moved xs (moved x s)) (stays_moved s x) (all_stay xs (moved x s))

pub reach_stays : (s t : MarksState) → Reaches s t → Stays s t
unfolding Reaches
reach_stays s t r = stays_as s t (all_moved r.0 s) r.1 (all_stay r.0 s)
