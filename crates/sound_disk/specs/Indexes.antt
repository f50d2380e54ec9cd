-- The index of a table, page by page: the header page, the branches and leaves before the next free page, and zeros from there on.
use Rattle.std.specs.Prelude.{◌≡◌, ◌⊎◌, ℕ, ◌+◌, ◌-◌, ◌^◌, ◌<◌, ◌≤◌, ◌==◌, nat_le, Bool, true, List, drop, slice_index, Contains, is_none}
use Rattle.ds_base.specs.Pages.{index_page}
use Rattle.ds_base.specs.declared.names.PageId.{PageId}
use Rattle.page_format.specs.Header.{is_zeros, header_of}
use Rattle.page_format.specs.declared.header.PageKind.TheVariants as kind
use Rattle.index_leaf.specs.declared.layout.Entry.{Entry}
use Rattle.index_leaf.specs.Entries.{has_high_at, right_at, count_of, high_of, high_field, right_field, entries_of}
use Rattle.index_leaf.specs.Changes.{next_at, next_page_of, entry_offset, half}
use Rattle.index_leaf.specs.Nodes.{IsNode}
use Rattle.page_images.specs.Images.{Images}
use Rattle.page_images.specs.Parts.{part}
use Rattle.sound_disk.specs.Layouts.{IsOfKind, has_clean_header}

-- the next free page is behind the first branch and the first leaf, and may be followed
pub record IsIndexHeader (id : PageId) (page : List ℕ) : Type 0 where
  pub kind_is : IsOfKind kind.IndexHeader (header_of page id)
  pub clean : has_clean_header page ≡ true
  pub next_from : 3 ≤ next_page_of page
  pub next_to : next_page_of page < 2 ^ 32 - 1
  pub rest : is_zeros (drop (next_at + 4) page) ≡ true

-- an entry of a branch leads to a page, not to a slot
abbrev pub LeadsToPages : List ℕ → Type 0
LeadsToPages page = (e : Entry) → Contains (entries_of page) e → e.place.slot ≡ 0

abbrev pub IsBranchPage : PageId → List ℕ → Type 0
IsBranchPage id page = IsOfKind kind.Branch (header_of page id) × LeadsToPages page

abbrev pub IsLeafPage : PageId → List ℕ → Type 0
IsLeafPage id page = IsOfKind kind.Leaf (header_of page id)

-- the bytes that are no field's: behind the mark of the high key, behind the right page, and behind the place of each entry
pub record HasCleanFields (page : List ℕ) : Type 0 where
  pub behind_mark : is_zeros (part (has_high_at + 1) 3 page) ≡ true
  pub behind_right : is_zeros (part (right_at + 4) 8 page) ≡ true
  pub entries : (n : ℕ) → n < count_of page → is_zeros (part (entry_offset n + 14) 2 page) ≡ true
  pub rest : is_zeros (drop (entry_offset (count_of page)) page) ≡ true

-- its keys rise from the low key on and below the high key; it has a page to its right exactly where it has a high key
pub record IsNodePage (id : PageId) (page : List ℕ) : Type 0 where
  pub kind_is : IsBranchPage id page ⊎ IsLeafPage id page
  pub node : IsNode page
  pub mark : nat_le (slice_index page has_high_at) 1 ≡ true
  pub no_high : is_none (high_of page) ≡ true → high_field page ≡ 0
  pub right : (right_field page == 0) ≡ is_none (high_of page)
  pub clean_header : has_clean_header page ≡ true
  pub clean : HasCleanFields page

abbrev pub index_next : Images → ℕ → ℕ
index_next at table = next_page_of (at (index_page table 0))

-- all pages before the next free one are branches and leaves, each but the first two at least half full; all from it on is zeros
pub record AreIndexPages (at : Images) (table : ℕ) : Type 0 where
  pub header : IsIndexHeader (index_page table 0) (at (index_page table 0))
  pub pages : (n : ℕ) → 1 ≤ n → n < index_next at table → IsNodePage (index_page table n) (at (index_page table n))
  pub full : (n : ℕ) → 3 ≤ n → n < index_next at table → half ≤ count_of (at (index_page table n))
  pub rest : (n : ℕ) → index_next at table ≤ n → is_zeros (at (index_page table n)) ≡ true
