-- Whether the slots of a heap have the rows that the records left.
use Rattle.std.specs.Prelude.{◌≡◌, ℕ, ◌<◌, List, Option, Some}
use Rattle.ds_base.specs.Pages.{heap_page}
use Rattle.heap_space.specs.Slots.{content, slot_in}
use Rattle.page_images.specs.Images.{Images}
use Rattle.sound_disk.specs.Layouts.{count_in}
use Rattle.sound_disk.specs.Rows_there.{key_in}

-- if the slot was given, it has the row of its key
abbrev pub SlotHas : (ℕ → Option (List ℕ)) → List ℕ → ℕ → Type 0
SlotHas row page slot = (key : ℕ) → key_in (content (slot_in page slot)) ≡ Some key → content (slot_in page slot) ≡ Some (key, row key)

-- each slot that was given on the page
abbrev pub PageHas : (ℕ → Option (List ℕ)) → List ℕ → Type 0
PageHas row page = (s : ℕ) → s < count_in page → SlotHas row page s

abbrev pub PageHasAt : Images → (ℕ → Option (List ℕ)) → ℕ → ℕ → Type 0
PageHasAt at row table n = PageHas row (at (heap_page table n))
