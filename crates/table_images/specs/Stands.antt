-- What each page of a heap is to be.
use Rattle.std.specs.Prelude.{◌≡◌, ◌⊎◌, ◌↔◌, ℕ, ◌<◌, ◌≤◌, true, List}
use Rattle.ds_base.specs.Pages.{heap_page}
use Rattle.ds_base.specs.declared.names.PageId.{PageId}
use Rattle.page_format.specs.Header.{is_zeros}
use Rattle.heap_space.specs.Next.{given_of}
use Rattle.page_images.specs.Images.{Images}
use Rattle.sound_disk.specs.Layouts.{count_in}
use Rattle.sound_disk.specs.Heaps.{IsHeapHeader, IsRowPage, heap_last, IsHeap}

-- in a heap with this last page and so many slots given in it: the header page, or zeros; a page of rows; zeros behind the last one
pub record Stands (last given : ℕ) (id : PageId) (page : List ℕ) : Type 0 where
  pub header : id.number ≡ 0 → (is_zeros page ≡ true) ⊎ IsHeapHeader id page
  pub rows : 1 ≤ id.number → id.number ≤ last → IsRowPage id page
  pub full : 1 ≤ id.number → id.number ≡ last → count_in page ≡ given
  pub rest : last < id.number → is_zeros page ≡ true

abbrev pub StandsAt : Images → ℕ → ℕ → ℕ → ℕ → Type 0
StandsAt at table last given n = Stands last given (heap_page table n) (at (heap_page table n))

-- by the header page
abbrev pub given_by : Images → ℕ → ℕ
given_by at table = given_of (at (heap_page table 0))

-- each page stands exactly where the heap is right
abbrev pub StandsIsHeap : Type 0
StandsIsHeap = (at : Images) (table : ℕ) → ((n : ℕ) → StandsAt at table (heap_last at table) (given_by at table) n) ↔ IsHeap at table
