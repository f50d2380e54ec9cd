-- A pool, and what its calls make of it.
use Rattle.std.specs.Prelude.{ℕ, true, if◌then◌else◌, List, slice_set, find, Option}
use Rattle.ds_base.specs.declared.names.PageId.{PageId}
use Rattle.write_order.specs.declared.rank.Rank.{Rank}
use Rattle.member_pool.specs.declared.frame.Frame.{Frame}
use Rattle.member_pool.specs.Frames.{free_frame, holding, frame_at, is_unpinned}
use Rattle.page_index.specs.Uses.{newest, oldest}

-- the bytes and the use of each frame, and the frames in the order of their use, the one used longest ago first
pub record PoolState : Type 0 where
  pub pages : List (List ℕ)
  pub frames : List Frame
  pub order : List ℕ

abbrev pub frame_of : PoolState → ℕ → Frame
frame_of pool f = frame_at pool.frames f

abbrev pub with_frame : PoolState → ℕ → Frame → PoolState
with_frame pool f frame = record pool { frames = slice_set pool.frames f frame }

-- the page is placed: all marks are clear, and the frame is the newest
abbrev pub placed : PoolState → ℕ → PageId → PoolState
placed pool f id = record pool { frames = slice_set pool.frames f (holding id); order = newest f pool.order }

-- the frame is free, and counts as used longest ago
abbrev pub dropped : PoolState → ℕ → PoolState
dropped pool f = record pool { frames = slice_set pool.frames f free_frame; order = oldest f pool.order }

-- the frame is changed, with this rank; one that is changed already keeps its rank
abbrev pub marked_in : PoolState → ℕ → Rank → PoolState
marked_in pool f rank = if (frame_of pool f).changed then pool else with_frame pool f (record (frame_of pool f) { changed = true; rank = rank })

-- one more pin, and the frame is the newest
abbrev pub pinned : PoolState → ℕ → ℕ → PoolState
pinned pool f pins = record pool { frames = slice_set pool.frames f (record (frame_of pool f) { pins = pins }); order = newest f pool.order }

-- the unpinned frame that was used longest ago
abbrev pub victim_of : PoolState → Option ℕ
victim_of pool = find (λ f. is_unpinned (frame_of pool f)) pool.order
