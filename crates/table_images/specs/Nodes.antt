-- What each page of an index is to be.
use Rattle.std.specs.Prelude.{◌≡◌, ◌⊎◌, ◌↔◌, ℕ, ◌-◌, ◌<◌, ◌≤◌, nat_lt, Bool, true, false, not, if◌then◌else◌, List}
use Rattle.ds_base.specs.Pages.{index_page}
use Rattle.ds_base.specs.declared.names.PageId.{PageId}
use Rattle.page_format.specs.Header.{is_zeros}
use Rattle.index_leaf.specs.Entries.{count_of}
use Rattle.index_leaf.specs.Changes.{half}
use Rattle.page_images.specs.Images.{Images}
use Rattle.sound_disk.specs.Indexes.{IsIndexHeader, IsNodePage, index_next, AreIndexPages}

-- in an index with this next free page: the header page; a branch or a leaf, at least half full but for the first two; zeros from it on
pub record NodeIn (next : ℕ) (id : PageId) (page : List ℕ) : Type 0 where
  pub header : id.number ≡ 0 → IsIndexHeader id page
  pub node : 1 ≤ id.number → id.number < next → IsNodePage id page
  pub full : 3 ≤ id.number → id.number < next → half ≤ count_of page
  pub rest : 1 ≤ id.number → next ≤ id.number → is_zeros page ≡ true

-- zeros, where the index isn't formatted
abbrev pub NodeStands : Bool → ℕ → PageId → List ℕ → Type 0
NodeStands true next id page = NodeIn next id page
NodeStands false next id page = is_zeros page ≡ true

abbrev pub NodeStandsAt : Images → ℕ → Bool → ℕ → ℕ → Type 0
NodeStandsAt at table formatted next n = NodeStands formatted next (index_page table n) (at (index_page table n))

-- the number of the last branch or leaf, at least 1
abbrev pub last_node : ℕ → ℕ
last_node next = if nat_lt next 2 then 1 else next - 1

-- all pages of the index are zeros
abbrev pub IsUnformatted : Images → ℕ → Type 0
IsUnformatted at table = (n : ℕ) → is_zeros (at (index_page table n)) ≡ true

abbrev pub is_formatted : Images → ℕ → Bool
is_formatted at table = not (is_zeros (at (index_page table 0)))

-- each page stands exactly where the index has no pages, or right ones
abbrev pub StandsIsIndex : Type 0
StandsIsIndex = (at : Images) (table : ℕ) → ((n : ℕ) → NodeStandsAt at table (is_formatted at table) (index_next at table) n) ↔ (IsUnformatted at table ⊎ AreIndexPages at table)
