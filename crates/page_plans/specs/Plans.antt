-- The patches of an action, as functions of the bytes of its pages.
use Rattle.std.specs.Prelude.{ℕ, ◌+◌, ◌^◌, ◌≤◌, ◌<◌, ◌&&◌, if◌then◌else◌, List, ◌∷◌, ◌++◌, Option, None, Some}
use Rattle.ds_base.specs.declared.names.PageId.{PageId}
use Rattle.ds_base.specs.declared.names.Place.{Place}
use Rattle.page_format.specs.declared.patch.Patch.{Patch}
use Rattle.heap_space.specs.Changes.{give_patches}
use Rattle.heap_space.specs.Changes as heap
use Rattle.index_leaf.specs.declared.layout.Entry.{Entry}
use Rattle.index_leaf.specs.Changes.{id_of, next_page_of, next_patch, insert_patches, left_patches, right_patches}
use Rattle.index_leaf.specs.Changes as index
use Rattle.page_plans.specs.declared.action.Action.{Action}
use Rattle.page_plans.specs.declared.action.Action.TheVariants as action
use Rattle.page_plans.specs.Looks.{index_format_look, heap_format_look, header_look, heap_page_look, leaf_look, index_header_look, full_page_look, split_page_look, branch_look, split_off, place_in, goes_on, draws}

-- a page that a record may name
pub record IsName (id : PageId) : Type 0 where
  pub from : 1 ≤ id.set
  pub upto : id.set ≤ 128
  pub fits : id.number < 2 ^ 32

-- ---- formats

abbrev pub index_plan : ℕ → List ℕ → List ℕ → List ℕ → Option (List Patch)
index_plan table a b c =
    if goes_on (index_format_look table 0 a) && (goes_on (index_format_look table 1 b) && draws (index_format_look table 2 c)) then Some (index.format_patches table) else None

abbrev pub heap_plan : ℕ → List ℕ → Option (List Patch)
heap_plan table a = if draws (heap_format_look table 0 a) then Some (heap.format_patches table) else None

-- ---- a slot

abbrev pub entry_of : ℕ → Place → Entry
entry_of key place = record { key = key; place = place }

-- those that give the slot, and those of its entry
abbrev pub slot_patches : ℕ → ℕ → Place → List ℕ → List Patch
slot_patches table key place leaf = give_patches table place key ++ insert_patches leaf (entry_of key place)

abbrev pub slot_at : ℕ → ℕ → ℕ → Option Place → List ℕ → List ℕ → Option (List Patch)
slot_at table key leaf None b c = None
slot_at table key leaf (Some place) b c =
    if goes_on (heap_page_look table leaf (Some place) b) && draws (leaf_look table key leaf c) then Some (slot_patches table key place c) else None

abbrev pub slot_plan : ℕ → ℕ → ℕ → ℕ → List ℕ → List ℕ → List ℕ → Option (List Patch)
slot_plan table key leaf limit a b c = slot_at table key leaf (place_in (header_look table limit a)) b c

-- ---- a split

-- the patch of the index header that takes the next page, those of the full page, and those of the new one
abbrev pub split_patches : List ℕ → List ℕ → ℕ → List Patch
split_patches header left next = next_patch (id_of header) (next_page_of header + 1) ∷ left_patches left next ++ right_patches left next

abbrev pub split_at : ℕ → ℕ → Option Place → List ℕ → List ℕ → List ℕ → Option (List Patch)
split_at table left None a b c = None
split_at table left (Some next) a b c =
    if goes_on (full_page_look table left (Some next) b) && draws (split_page_look table (Some next) c) then Some (split_patches a b next.page) else None

abbrev pub split_plan : ℕ → ℕ → List ℕ → List ℕ → List ℕ → Option (List Patch)
split_plan table left a b c = split_at table left (place_in (index_header_look table left a)) a b c

-- ---- an entry in a branch

abbrev pub branch_plan : ℕ → ℕ → ℕ → ℕ → List ℕ → Option (List Patch)
branch_plan table branch low child a =
    if draws (branch_look table branch low child a) then Some (insert_patches a (entry_of low (split_off child))) else None

-- ---- all actions

abbrev pub one_plan : Action → List ℕ → Option (List Patch)
one_plan (action.FormatIndex table) a = None
one_plan (action.FormatHeap table) a = heap_plan table a
one_plan (action.GiveSlot table key leaf) a = None
one_plan (action.Split table left) a = None
one_plan (action.BranchEntry table branch low child) a = branch_plan table branch low child a
one_plan (action.RowChange table key at after) a = None

abbrev pub three_plan : Action → ℕ → List ℕ → List ℕ → List ℕ → Option (List Patch)
three_plan (action.FormatIndex table) limit a b c = index_plan table a b c
three_plan (action.FormatHeap table) limit a b c = None
three_plan (action.GiveSlot table key leaf) limit a b c = slot_plan table key leaf limit a b c
three_plan (action.Split table left) limit a b c = split_plan table left a b c
three_plan (action.BranchEntry table branch low child) limit a b c = None
three_plan (action.RowChange table key at after) limit a b c = None

-- over one page or three, and no others
abbrev pub plan_of : Action → ℕ → Option (List ℕ) → Option (List ℕ) → Option (List ℕ) → Option (List Patch)
plan_of a limit None second third = None
plan_of a limit (Some x) None None = one_plan a x
plan_of a limit (Some x) None (Some z) = None
plan_of a limit (Some x) (Some y) None = None
plan_of a limit (Some x) (Some y) (Some z) = three_plan a limit x y z
