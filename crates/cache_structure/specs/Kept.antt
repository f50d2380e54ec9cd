-- What a table of entries keeps.
use Rattle.std.specs.Prelude.{ℕ, ◌≡◌, ◌<◌, ◌≤◌, ◌^◌, length, None}
use Rattle.page_index.specs.Places.{Index, IsIndexOf}
use Rattle.page_index.specs.Uses.{IsOrderOf}
use Rattle.cache_structure.specs.Slots.{Table, page_of, slot_at, entries_in}

pub record IsKept (t : Table) (places : Index) (used : ℕ) : Type 0 where
  -- each slot has a page's storage
  pub same : length t.pages ≡ length t.slots
  pub small : length t.slots < 2 ^ 32
  -- the order has each slot, and nothing else
  pub whole : IsOrderOf (length t.slots) t.order
  -- the index leads to each page
  pub index : IsIndexOf page_of t.slots places
  -- the slots from the first that was never used on are free
  pub count : length (entries_in t) ≡ used
  pub free : (s : ℕ) → used ≤ s → (slot_at t.slots s).page ≡ None
  pub at_most : used ≤ length t.slots
