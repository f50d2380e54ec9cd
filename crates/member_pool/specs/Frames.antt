-- What a frame of the pool holds.
use Rattle.std.specs.Prelude.{ℕ, ◌==◌, Bool, false, List, slice_get, position, Option, Some, None, is_none, unwrap_or}
use Rattle.std.specs.Option.{option_map_or}
use Rattle.ds_base.specs.Pages.{same_page}
use Rattle.ds_base.specs.declared.names.PageId.{PageId}
use Rattle.write_order.specs.declared.rank.Rank.TheVariants.{HeapPage}
use Rattle.member_pool.specs.declared.frame.Frame.{Frame}

-- a frame that holds no page
abbrev pub free_frame : Frame
free_frame = record { page = None; changed = false; rank = HeapPage; filled = false; registered = false; pins = 0 }

-- a frame in which the page was just placed: all marks are clear
abbrev pub holding : PageId → Frame
holding id = record { page = Some id; changed = false; rank = HeapPage; filled = false; registered = false; pins = 0 }

abbrev pub page_of : Frame → Option PageId
page_of frame = frame.page

-- whether the frame holds the page
abbrev pub holds : PageId → Frame → Bool
holds id frame = option_map_or (same_page id) frame.page false

abbrev pub is_free : Frame → Bool
is_free frame = is_none frame.page

abbrev pub is_unpinned : Frame → Bool
is_unpinned frame = frame.pins == 0

-- the frame of this number
abbrev pub frame_at : List Frame → ℕ → Frame
frame_at frames f = unwrap_or (slice_get frames f) free_frame

-- the number of the frame that holds the page
abbrev pub find_page : List Frame → PageId → Option ℕ
find_page frames id = position (holds id) frames
