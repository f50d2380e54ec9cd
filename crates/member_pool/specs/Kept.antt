-- What the heads of a pool keep.
use Rattle.std.specs.Prelude.{ℕ, ◌≡◌, ◌<◌, ◌≤◌, ◌^◌, true, List, length}
use Rattle.page_index.specs.Places.{Index, IsIndexOf}
use Rattle.page_index.specs.Uses.{IsOrderOf}
use Rattle.member_pool.specs.declared.frame.Frame.{Frame}
use Rattle.member_pool.specs.Frames.{frame_at, is_free, page_of}
use Rattle.member_pool.specs.Sound.{come_first}
use Rattle.member_pool.specs.Listed.{entry_in, AreMarked}

pub record AreKept (frames : List Frame) (order : List ℕ) (places : Index) (listed : List ℕ) (capacity : ℕ) (counts : List ℕ) : Type 0 where
  pub small : length frames < 2 ^ 16
  -- the order has each frame, and nothing else, and free frames first
  pub whole : IsOrderOf (length frames) order
  pub free_first : come_first (λ f. is_free (frame_at frames f)) order ≡ true
  pub index : IsIndexOf page_of frames places
  -- the changed frames are listed and counted, and there is room to list all
  pub marked : AreMarked (entry_in frames) (length frames) listed counts
  pub list_room : length frames ≤ capacity
