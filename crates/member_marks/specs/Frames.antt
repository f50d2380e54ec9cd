-- The heads of the frames.
use Rattle.std.specs.Prelude.{ℕ, ◌+◌, ◌-◌, ◌/◌, ◌^◌, Bool, true, ◌&&◌, nat_lt, if◌then◌else◌, Option, Some, None, is_some, is_none, length, zero, suc}
use Rattle.ds_base.specs.declared.names.PageId.{PageId}
use Rattle.member_pool.specs.Given.{Rank}
use Rattle.member_pool.specs.declared.frame.Frame.{Frame}
use Rattle.member_pool.specs.Frames.{find_page, is_unpinned}
use Rattle.member_pool.specs.Heads.{HeadState, head_of, with_head, placed_in, freed, pinned_to, marked, written, free_in, first_to_write, has_changed}
use Rattle.member_trans.specs.declared.fate.Owner.{Owner}
use Rattle.member_trans.specs.Trans.{TransState, has_set}
use Rattle.member_marks.specs.State.{MarksState, with_heads}

abbrev pub frame_in : HeadState → ℕ → Frame
frame_in h at = head_of h at

abbrev pub is_placed : HeadState → ℕ → Bool
is_placed h at = is_some (frame_in h at).page

-- ---- writing

-- the first page set from k on, of n, that has changed frames among those that the owner's transaction has changed
unfoldable pub first_changed : HeadState → TransState → Owner → ℕ → ℕ → Option ℕ
first_changed h t o k zero = None
first_changed h t o k (suc n) = if has_set t o k && has_changed h k then Some k else first_changed h t o (k + 1) n

abbrev pub to_write_of : HeadState → Option ℕ → Option ℕ
to_write_of h None = None
to_write_of h (Some set) = first_to_write h ((set + 1) / 2)

abbrev pub to_write : MarksState → Owner → Option ℕ
to_write s o = to_write_of s.heads (first_changed s.heads s.trans o 1 128)

-- ---- marks: only those of a frame that holds a page change

abbrev pub if_placed : MarksState → ℕ → HeadState → MarksState
if_placed s at h = if is_placed s.heads at then with_heads s h else s

abbrev pub with_registered : HeadState → ℕ → Bool → HeadState
with_registered h at b = with_head h at (record (head_of h at) { registered = b })

abbrev pub with_filled : HeadState → ℕ → Bool → HeadState
with_filled h at b = with_head h at (record (head_of h at) { filled = b })

abbrev pub after_registered : MarksState → ℕ → Bool → MarksState
after_registered s at b = if_placed s at (with_registered s.heads at b)

abbrev pub after_filled : MarksState → ℕ → Bool → MarksState
after_filled s at b = if_placed s at (with_filled s.heads at b)

-- the page was written: the frame isn't changed, and is registered
abbrev pub after_written : MarksState → ℕ → MarksState
after_written s at = if_placed s at (with_registered (written s.heads at) at true)

abbrev pub after_marked : MarksState → ℕ → Rank → MarksState
after_marked s at rank = if_placed s at (marked s.heads at rank)

abbrev pub after_unregister : MarksState → ℕ → MarksState
after_unregister s at = if nat_lt at (length s.heads.frames) then with_heads s (freed s.heads at) else s

-- ---- places and pins

-- the page is placed in this frame, if nobody has pinned that
abbrev pub placed_at : MarksState → PageId → Option ℕ → MarksState
placed_at s p None = s
placed_at s p (Some at) = if is_unpinned (head_of s.heads at) then with_heads s (placed_in s.heads at p) else s

abbrev pub after_place : MarksState → PageId → MarksState
after_place s p = if is_none (find_page s.heads.frames p) then placed_at s p (free_in s.heads) else s

abbrev pub place_at : MarksState → Option ℕ → Option ℕ
place_at s None = None
place_at s (Some at) = if is_unpinned (head_of s.heads at) then Some at else None

abbrev pub place_told : MarksState → PageId → Option ℕ
place_told s p = if is_none (find_page s.heads.frames p) then place_at s (free_in s.heads) else None

abbrev pub may_pin : HeadState → ℕ → Bool
may_pin h at = is_placed h at && nat_lt (frame_in h at).pins (2 ^ 32 - 1)

abbrev pub after_pin : MarksState → ℕ → MarksState
after_pin s at = if may_pin s.heads at then with_heads s (pinned_to s.heads at ((head_of s.heads at).pins + 1)) else s

abbrev pub may_unpin : HeadState → ℕ → Bool
may_unpin h at = nat_lt 0 (frame_in h at).pins

abbrev pub after_unpin : MarksState → ℕ → MarksState
after_unpin s at = if may_unpin s.heads at then with_heads s (with_head s.heads at (record (head_of s.heads at) { pins = (head_of s.heads at).pins - 1 })) else s
