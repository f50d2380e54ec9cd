-- The patches that format a heap and give its slots.
use Rattle.std.specs.Prelude.{ℕ, ◌+◌, ◌-◌, ◌==◌, if◌then◌else◌, List, [], ◌∷◌, ◌++◌, None}
use Rattle.byteorder.specs.Endian.{big_bytes}
use Rattle.ds_base.specs.Pages.{heap_page}
use Rattle.ds_base.specs.declared.names.PageId.{PageId}
use Rattle.ds_base.specs.declared.names.Place.{Place}
use Rattle.page_format.specs.Fields.{mark_at, count_at, version}
use Rattle.page_format.specs.Header.{mark}
use Rattle.page_format.specs.declared.patch.Patch.{Patch}
use Rattle.heap_space.specs.Layout.{last_page_at, slot_at}
use Rattle.heap_space.specs.Slots.{image}

-- the mark, the kind, the version, and the page's name
abbrev pub front : ℕ → PageId → List ℕ
front kind id = mark ++ (kind ∷ version ∷ []) ++ big_bytes 2 id.set ++ big_bytes 4 id.number

abbrev pub front_patch : ℕ → PageId → Patch
front_patch kind id = record { page = id; offset = mark_at; bytes = front kind id }

-- the empty header page becomes one of kind 1: it has no page of rows yet
unfoldable pub format_patches : ℕ → List Patch
format_patches table = front_patch 1 (heap_page table 0) ∷ []

-- the header page names the place as the last that was given
abbrev pub last_patch : ℕ → Place → Patch
last_patch table place = record {
  page = heap_page table 0;
  offset = last_page_at;
  bytes = big_bytes 4 place.page ++ big_bytes 2 (place.slot + 1);
}

abbrev pub count_patch : ℕ → Place → Patch
count_patch table place = record { page = heap_page table place.page; offset = count_at; bytes = big_bytes 2 (place.slot + 1) }

-- the slot has its key, and no row
abbrev pub slot_patch : ℕ → Place → ℕ → Patch
slot_patch table place key = record { page = heap_page table place.page; offset = slot_at place.slot; bytes = image key None }

-- the first slot of a page makes it one of kind 2
abbrev pub front_patches : ℕ → Place → List Patch
front_patches table place = if place.slot == 0 then front_patch 2 (heap_page table place.page) ∷ [] else []

unfoldable pub give_patches : ℕ → Place → ℕ → List Patch
give_patches table place key =
    last_patch table place ∷ front_patches table place ++ (count_patch table place ∷ slot_patch table place key ∷ [])
