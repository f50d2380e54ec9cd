-- The frames of the members, and the page with which each is registered.
use Rattle.std.specs.Prelude.{ℕ, ◌==◌, Bool, false, ◌&&◌, Option, None, cond}
use Rattle.std.specs.Option.{option_map_or}
use Rattle.ds_base.specs.declared.names.PageId.{PageId}
use Rattle.ds_base.specs.Pages.{same_page}

-- the page of each frame, by member and frame index: None where the frame is not registered
abbrev pub Registered : Type 0
Registered = ℕ → ℕ → Option PageId

abbrev pub none_registered : Registered
none_registered member index = None

abbrev pub is_page : PageId → Option PageId → Bool
is_page id page = option_map_or (same_page id) page false

-- a registration, unless it is one of the page
abbrev pub unless : PageId → Option PageId → Option PageId
unless id page = cond (is_page id page) None page

-- a registration that is spared stays
abbrev pub spared : Bool → PageId → Option PageId → Option PageId
spared stays id page = cond stays page (unless id page)

-- this frame has another registration, or none
abbrev pub with_frame : Registered → ℕ → ℕ → Option PageId → Registered
with_frame registered member index page = λ m i. cond ((m == member) && (i == index)) page (registered m i)

-- no frame is registered with the page
abbrev pub page_dropped : Registered → PageId → Registered
page_dropped registered id = λ m i. unless id (registered m i)

-- no other member's frame is registered with the page
abbrev pub others_dropped : Registered → ℕ → PageId → Registered
others_dropped registered member id = λ m i. cond (m == member) (registered m i) (unless id (registered m i))

-- no frame of the member is registered
abbrev pub member_dropped : Registered → ℕ → Registered
member_dropped registered member = λ m i. cond (m == member) None (registered m i)
