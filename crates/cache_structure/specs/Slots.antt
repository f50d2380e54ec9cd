-- The slots of the directory: each has storage for one entry.
use Rattle.std.specs.Prelude.{ℕ, ◌==◌, ◌&&◌, ◌||◌, Bool, true, false, not, List, slice_get, position, filter_map, Option, Some, None, is_some, unwrap_or, cond}
use Rattle.std.specs.Option.{option_map_or, option_map}
use Rattle.ds_base.specs.declared.names.PageId.{PageId}
use Rattle.cache_structure.specs.declared.slot.Slot.{Slot}
use Rattle.cache_structure.specs.Entries.{Entry}
use Rattle.ds_base.specs.Pages.{same_page}

-- a slot that holds no entry
abbrev pub free_slot : Slot
free_slot = record { page = None; filled = false; changed = false; castout = None; written = false }

-- a slot in which an entry was just made
abbrev pub holding : PageId → Slot
holding id = record { page = Some id; filled = false; changed = false; castout = None; written = false }

abbrev pub page_of : Slot → Option PageId
page_of slot = slot.page

-- whether the slot holds the page's entry
abbrev pub holds : PageId → Slot → Bool
holds id slot = option_map_or (same_page id) slot.page false

-- whether it holds an entry that may be reclaimed
abbrev pub is_idle_slot : Slot → Bool
is_idle_slot slot = is_some slot.page && not (slot.changed || is_some slot.castout)

-- the slot of this number
abbrev pub slot_at : List Slot → ℕ → Slot
slot_at slots s = unwrap_or (slice_get slots s) free_slot

-- the page whose entry stands in the slot of this number
abbrev pub page_in : List Slot → ℕ → Option PageId
page_in slots s = (slot_at slots s).page

-- whether the page's entry stands in the slot of this number
abbrev pub holds_at : List Slot → ℕ → PageId → Bool
holds_at slots s id = holds id (slot_at slots s)

-- the number of the slot that holds the page's entry
abbrev pub find_slot : List Slot → PageId → Option ℕ
find_slot slots id = position (holds id) slots

-- the entry in a slot with these bytes
abbrev pub entry_in : Slot → Option (List ℕ) → Option Entry
entry_in slot bytes =
    option_map (λ id. record {
      page = id;
      bytes = cond slot.filled bytes None;
      changed = slot.changed;
      castout = slot.castout;
      written = slot.written;
    }) slot.page

-- new bytes were written to the entry
abbrev pub rewritten : Slot → Slot
rewritten slot = record slot { filled = true; changed = true; written = true }

-- the member took the castout lock
abbrev pub locked_for : ℕ → Slot → Slot
locked_for member slot = record slot { castout = Some member; written = false }

-- the castout lock was freed at the end of a castout
abbrev pub unlocked : Slot → Slot
unlocked slot = record slot { castout = None; changed = slot.changed && slot.written }

-- the castout lock is freed, if it is the member's
abbrev pub freed_slot : ℕ → Slot → Slot
freed_slot member slot = cond (option_map_or (λ by. by == member) slot.castout false) (record slot { castout = None }) slot

-- the page of a changed entry
abbrev pub changed_page : Slot → Option PageId
changed_page slot = cond slot.changed slot.page None

-- the slots with the bytes of each, and the numbers of the slots, the one used longest ago first
pub record Table : Type 0 where
  pub slots : List Slot
  pub pages : List (List ℕ)
  pub order : List ℕ

abbrev pub entry_at : Table → ℕ → Option Entry
entry_at t s = entry_in (slot_at t.slots s) (slice_get t.pages s)

-- the entries in the order of their last use, the oldest first
abbrev pub entries_in : Table → List Entry
entries_in t = filter_map (entry_at t) t.order

-- the bytes of the entry in a slot
abbrev pub bytes_at : Table → ℕ → Option (List ℕ)
bytes_at t s = option_map_or (λ e. e.bytes) (entry_at t s) None
