-- The heads of the frames, and what each call makes of them.
use Rattle.std.specs.Prelude.{ℕ, Bool, true, false, if◌then◌else◌, List, slice_set, replicate, find, Option, is_some}
use Rattle.std.specs.List.{range_with_len}
use Rattle.std.specs.Option.{option_map_or}
use Rattle.ds_base.specs.declared.names.PageId.{PageId}
use Rattle.write_order.specs.declared.rank.Rank.{Rank}
use Rattle.member_pool.specs.declared.frame.Frame.{Frame}
use Rattle.member_pool.specs.Frames.{free_frame, holding, frame_at, is_free, is_unpinned}
use Rattle.member_pool.specs.Marks.{entry_of, is_first, first_of, has_changed_of}
use Rattle.page_index.specs.Uses.{newest, oldest}

-- the use of each frame, and the frames in the order of their use, the one used longest ago first
pub record HeadState : Type 0 where
  pub frames : List Frame
  pub order : List ℕ

-- so many frames that hold no page
abbrev pub all_free : ℕ → HeadState
all_free n = record { frames = replicate n free_frame; order = range_with_len 0 n }

abbrev pub head_of : HeadState → ℕ → Frame
head_of heads f = frame_at heads.frames f

-- ---- changes

abbrev pub with_head : HeadState → ℕ → Frame → HeadState
with_head heads f head = record heads { frames = slice_set heads.frames f head }

-- the page is placed: all marks are clear, and the frame is the newest
abbrev pub placed_in : HeadState → ℕ → PageId → HeadState
placed_in heads f id = record heads { frames = slice_set heads.frames f (holding id); order = newest f heads.order }

-- the frame is free, and counts as used longest ago
abbrev pub freed : HeadState → ℕ → HeadState
freed heads f = record heads { frames = slice_set heads.frames f free_frame; order = oldest f heads.order }

-- the frame is pinned so often, and is the newest
abbrev pub pinned_to : HeadState → ℕ → ℕ → HeadState
pinned_to heads f pins = record heads { frames = slice_set heads.frames f (record (head_of heads f) { pins = pins }); order = newest f heads.order }

-- the frame is changed, with this rank; one that is changed already keeps its rank
abbrev pub marked : HeadState → ℕ → Rank → HeadState
marked heads f rank =
    if (head_of heads f).changed then heads
    else with_head heads f (record (head_of heads f) { changed = true; rank = rank })

abbrev pub written : HeadState → ℕ → HeadState
written heads f = with_head heads f (record (head_of heads f) { changed = false })

-- ---- answers

-- the unpinned frame that was used longest ago
abbrev pub victim_in : HeadState → Option ℕ
victim_in heads = find (λ f. is_unpinned (head_of heads f)) heads.order

-- the free frame that counts as used longest ago
abbrev pub free_in : HeadState → Option ℕ
free_in heads = find (λ f. is_free (head_of heads f)) heads.order

abbrev pub has_free : HeadState → Bool
has_free heads = is_some (free_in heads)

-- the changed frame of the table that is written before all others
abbrev pub first_to_write : HeadState → ℕ → Option ℕ
first_to_write heads table = first_of heads.frames table

-- whether the frame is changed, and none of its table is written before it
abbrev pub is_first_to_write : HeadState → ℕ → Bool
is_first_to_write heads f = option_map_or (is_first heads.frames) (entry_of (head_of heads f)) false

-- whether a frame of the page set, 1 to 128, is changed
abbrev pub has_changed : HeadState → ℕ → Bool
has_changed heads set = has_changed_of heads.frames set
