-- The set of the changed pages beside the slots.
use Rattle.std.specs.Prelude.{ℕ, ◌≡◌, ◌+◌, Bool, false, List, length, filter_map, Option}
use Rattle.std.specs.Option.{option_map_or}
use Rattle.ds_base.specs.declared.names.PageId.{PageId}
use Rattle.ds_base.specs.Pages.{same_page}
use Rattle.page_tree.specs.Pages.{Pages, has, is_in as is_among}
use Rattle.cache_structure.specs.declared.slot.Slot.{Slot}
use Rattle.cache_structure.specs.Slots.{slot_at, changed_page}

-- the page of the changed entry in the slot of this number
abbrev pub changed_at : List Slot → ℕ → Option PageId
changed_at slots f = changed_page (slot_at slots f)

-- the changed pages, in this order of the slots
abbrev pub changed_pages : List Slot → List ℕ → List PageId
changed_pages slots order = filter_map (changed_at slots) order

-- whether it is this page
abbrev pub is_page_of : PageId → Option PageId → Bool
is_page_of q o = option_map_or (same_page q) o false

-- the set has the changed pages, and room for one of each slot
pub record IsListed (slots : List Slot) (order : List ℕ) (set : Pages) : Type 0 where
  pub listed : (q : PageId) → has set q ≡ is_among q (changed_pages slots order)
  pub count : length set.listed ≡ length (changed_pages slots order)
  pub room : length set.listed + set.room ≡ length slots
