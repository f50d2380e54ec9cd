-- The pages of a table, and those of an action.
use Rattle.std.specs.Prelude.{ℕ, ◌+◌, ◌/◌, ◌==◌, nat_le, nat_lt, ◌&&◌, if◌then◌else◌, Option, None, Some}
use Rattle.ds_base.specs.declared.names.PageId.{PageId}
use Rattle.ds_base.specs.declared.names.Place.{Place}
use Rattle.ds_base.specs.Pages.{heap_page, index_page}
use Rattle.page_plans.specs.declared.action.Action.{Action}
use Rattle.page_plans.specs.declared.action.Action.TheVariants as action

-- table t has the page sets 2t - 1 and 2t
abbrev pub table_of : ℕ → Option ℕ
table_of set = if nat_le 1 ((set + 1) / 2) && nat_le ((set + 1) / 2) 64 then Some ((set + 1) / 2) else None

abbrev pub first_page : Action → PageId
first_page (action.FormatIndex table) = index_page table 0
first_page (action.FormatHeap table) = heap_page table 0
first_page (action.GiveSlot table key leaf) = heap_page table 0
first_page (action.Split table left) = index_page table 0
first_page (action.BranchEntry table branch low child) = index_page table branch
first_page (action.RowChange table key place after) = heap_page table place.page

-- ---- all pages of an action, where a place is known

abbrev pub three_pages : ℕ → ℕ → Option PageId
three_pages table nth = if nat_lt nth 3 then Some (index_page table nth) else None

-- the one of this number of three
abbrev pub picked : ℕ → PageId → PageId → PageId → Option PageId
picked nth a b c = if nth == 0 then Some a else if nth == 1 then Some b else if nth == 2 then Some c else None

-- the header of the heap, the page of the slot, and the leaf
abbrev pub slot_pages : ℕ → ℕ → ℕ → Option Place → Option PageId
slot_pages table leaf nth None = None
slot_pages table leaf nth (Some place) = picked nth (heap_page table 0) (heap_page table place.page) (index_page table leaf)

-- the header of the index, the full page, and the new one
abbrev pub split_pages : ℕ → ℕ → ℕ → Option Place → Option PageId
split_pages table left nth None = None
split_pages table left nth (Some place) = picked nth (index_page table 0) (index_page table left) (index_page table place.page)

abbrev pub one_page : PageId → ℕ → Option PageId
one_page page nth = if nth == 0 then Some page else None

abbrev pub action_page : Action → ℕ → Option Place → Option PageId
action_page (action.FormatIndex table) nth place = three_pages table nth
action_page (action.FormatHeap table) nth place = one_page (heap_page table 0) nth
action_page (action.GiveSlot table key leaf) nth place = slot_pages table leaf nth place
action_page (action.Split table left) nth place = split_pages table left nth place
action_page (action.BranchEntry table branch low child) nth place = one_page (index_page table branch) nth
action_page (action.RowChange table key at after) nth place = one_page (heap_page table at.page) nth
