-- What local moves and adopted rollbacks leave of the frames and slots.
use Rattle.std.proofs.Common.{◌≡◌, ℕ, refl, Bool, List, [], ◌∷◌, length, Option, Some, None}
use Rattle.std.specs.Prelude.{◌+◌, ◌-◌, if◌then◌else◌, is_none}
use Rattle.std.proofs.lemmas.Bool.{cond_both}
use Rattle.std.proofs.lemmas.List.{length-set}
use Rattle.ds_base.specs.declared.names.PageId.{PageId}
use Rattle.ds_model.specs.declared.fate.Refusal.TheVariants as refusal
use Rattle.ds_model.specs.declared.lock.Name.{Name}
use Rattle.lock_names.specs.declared.mode.Mode.{Mode}
use Rattle.lock_manager.specs.declared.claim.Ask.{Ask}
use Rattle.lock_manager.specs.declared.claim.Ask.TheVariants as ask
use Rattle.lock_manager.specs.Managers.{ask_of, is_postponed}
use Rattle.member_pool.specs.Frames.{find_page, holding, is_unpinned}
use Rattle.member_pool.specs.Heads.{HeadState, free_in, head_of, pinned_to, placed_in, with_head}
use Rattle.member_trans.specs.declared.fate.Owner.TheVariants as owner
use Rattle.member_trans.specs.Trans.{after_begin_with, after_refuse, may_begin, refused_for}
use Rattle.member_marks.specs.State.{MarksState, slot_id, with_heads, with_locks, with_trans}
use Rattle.member_marks.specs.Claims.{may_claim, offered_memory}
use Rattle.member_marks.specs.Frames.{may_pin, may_unpin, placed_at}
use Rattle.member_marks.specs.Local.{Local, Claim, Begin, Refuse, Abort, RefuseForMemory, Place, Pin, Unpin, Postpone, WaitFor, Reaches, given_with, entered_at_home, tried_as, with_lock_room, begun_with, after_begin, moved, all_moved}
use Rattle.member_marks.specs.Rollbacks.{retainer, can_postpone, postponed_for_member, waiting_for, may_adopt, with_rollback, with_room_of}
use Rattle.rooms_stay.specs.Rooms.{AdoptionsKeep, LocalsKeep, SameRoom}
use Rattle.rooms_stay.proofs.Room.{moved_to, if_so, itself, of_heads, of_locks, of_trans, on}
use Rattle.rooms_stay.proofs.Slots.{many_begun, many_postponed, many_refuse, many_refused}
use Rattle.rooms_stay.proofs.Effects.{of_offer}

-- ---- a lock is tried at home, and a transaction begins
at_home : (s : MarksState) (slot : ℕ) (n : Name) (m : Mode) (event : ℕ) (has_memory : Bool) (spare : ℕ) → SameRoom s (entered_at_home s slot n m event has_memory spare)
at_home s slot n m event has_memory spare =
    if_so s (with_locks s (given_with s.locks spare slot n m)) (offered_memory (with_locks s (record s.locks { spare = spare })) slot event) has_memory (of_locks s (given_with s.locks spare slot n m)) (record { frames = refl; slots = refl })

tried : (s : MarksState) (slot : ℕ) (n : Name) (m : Mode) (event : ℕ) (has_memory : Bool) (spare : ℕ) (a : Ask) → SameRoom s (tried_as s slot n m event has_memory spare a)
tried s slot n m event has_memory spare ask.Have = itself s
tried s slot n m event has_memory spare (ask.Conflict by) = of_offer s (owner.Slot slot) (refusal.Held n (slot_id s by)) event
tried s slot n m event has_memory spare (ask.Postponed by) = of_offer s (owner.Slot slot) (refusal.Retained n by) event
tried s slot n m event has_memory spare ask.Local = at_home s slot n m event has_memory spare
tried s slot n m event has_memory spare (ask.Facility more) = itself s

begun : (s : MarksState) (slot n : ℕ) (has_memory : Bool) (room : ℕ) → length (begun_with s.trans slot n has_memory room).slots ≡ length s.trans.slots
begun s slot n has_memory room = cond_both has_memory (after_begin_with s.trans slot n room) s.trans (λ z. length z.slots ≡ length s.trans.slots) (λ e. many_begun s.trans slot n room) (λ e. refl)

begins : (s : MarksState) (slot n : ℕ) (has_memory : Bool) (lock_room room : ℕ) → SameRoom s (after_begin s slot n has_memory lock_room room)
begins s slot n has_memory lock_room room =
    if_so s (with_trans (with_lock_room s lock_room) (begun_with s.trans slot n has_memory room)) s (may_begin s.trans slot) (record { frames = refl; slots = begun s slot n has_memory room }) (itself s)

-- ---- pages are placed and pinned
heads : (s : MarksState) (b : Bool) (h : HeadState) → length h.frames ≡ length s.heads.frames → SameRoom s (if b then with_heads s h else s)
heads s b h e = if_so s (with_heads s h) s b (of_heads s h e) (itself s)

placed : (s : MarksState) (p : PageId) (o : Option ℕ) → SameRoom s (placed_at s p o)
placed s p None = itself s
placed s p (Some at) = heads s (is_unpinned (head_of s.heads at)) (placed_in s.heads at p) (length-set s.heads.frames at (holding p))

-- ---- rollbacks
postponed_by : (s : MarksState) (slot : ℕ) (by : Option ℕ) → SameRoom s (postponed_for_member s slot by)
postponed_by s slot None = itself s
postponed_by s slot (Some by) = record { frames = refl; slots = many_postponed s.trans slot }

waits_by : (s : MarksState) (id : ℕ) (by : Option ℕ) → SameRoom s (waiting_for s id by)
waits_by s id None = itself s
waits_by s id (Some by) = record { frames = refl; slots = refl }

pub adoptions_keep : AdoptionsKeep
adoptions_keep s id by changes undone = if_so s (with_rollback s id by changes undone) s (may_adopt s id changes) (record { frames = refl; slots = refl }) (itself s)

pub room_taken : (s t : MarksState) → SameRoom s (with_room_of s t)
room_taken s t = record { frames = refl; slots = refl }

-- ---- any of them
local : (s : MarksState) (x : Local) → SameRoom s (moved x s)
local s (Claim slot n m has_memory spare) = if_so s (tried_as s slot n m s.trans.place has_memory spare (ask_of s.locks slot n m)) s (may_claim s slot n) (tried s slot n m s.trans.place has_memory spare (ask_of s.locks slot n m)) (itself s)
local s (Begin slot n has_memory lock_room room) = begins s slot n has_memory lock_room room
local s (Refuse slot) = of_trans s (after_refuse s.trans slot) (many_refuse s.trans slot)
local s (Abort slot) = of_trans s (refused_for s.trans slot refusal.Aborted s.trans.place) (many_refused s.trans slot refusal.Aborted s.trans.place)
local s (RefuseForMemory slot) = of_trans s (refused_for s.trans slot refusal.Memory s.trans.place) (many_refused s.trans slot refusal.Memory s.trans.place)
local s (Place p) = if_so s (placed_at s p (free_in s.heads)) s (is_none (find_page s.heads.frames p)) (placed s p (free_in s.heads)) (itself s)
local s (Pin at) = heads s (may_pin s.heads at) (pinned_to s.heads at ((head_of s.heads at).pins + 1)) (length-set s.heads.frames at (record (head_of s.heads at) { pins = (head_of s.heads at).pins + 1 }))
local s (Unpin at) = heads s (may_unpin s.heads at) (with_head s.heads at (record (head_of s.heads at) { pins = (head_of s.heads at).pins - 1 })) (length-set s.heads.frames at (record (head_of s.heads at) { pins = (head_of s.heads at).pins - 1 }))
local s (Postpone slot) = if_so s (postponed_for_member s slot (retainer s (owner.Slot slot))) s (can_postpone s slot) (postponed_by s slot (retainer s (owner.Slot slot))) (itself s)
local s (WaitFor id) = if_so s (waiting_for s id (retainer s (owner.Rollback id))) s (is_postponed s.locks id) (waits_by s id (retainer s (owner.Rollback id))) (itself s)

all_local : (xs : List Local) (s t : MarksState) → t ≡ all_moved xs s → SameRoom s t
all_local [] s t e = moved_to s t s e (itself s)
all_local (x ∷ xs) s t e = on s (moved x s) t (local s x) (all_local xs (moved x s) t e)

pub locals_keep : LocalsKeep
unfolding Reaches
locals_keep s t r = all_local r.0 s t r.1
