-- The heap of a table, page by page: the header page, the pages of rows up to the last one, and zeros behind it.
use Rattle.std.specs.Prelude.{◌≡◌, ◌⊎◌, ℕ, ◌+◌, ◌<◌, ◌≤◌, ◌==◌, Bool, true, false, List, drop, Option, None, Some}
use Rattle.ds_base.specs.Pages.{heap_page}
use Rattle.ds_base.specs.declared.names.PageId.{PageId}
use Rattle.page_format.specs.Header.{is_zeros, header_of}
use Rattle.page_format.specs.declared.header.PageKind.TheVariants as kind
use Rattle.heap_space.specs.Layout.{given_at, slot_at}
use Rattle.heap_space.specs.Next.{last_page_of, given_of, header_allowed}
use Rattle.heap_space.specs.Slots.{Content, content, slot_in, fault_in}
use Rattle.page_images.specs.Images.{Images}
use Rattle.sound_disk.specs.Layouts.{IsOfKind, count_in, has_clean_header}

-- its last page and the slots given in it are numbers that may stand there; as soon as there is a last page, a slot of it is given
pub record IsHeapHeader (id : PageId) (page : List ℕ) : Type 0 where
  pub kind_is : IsOfKind kind.HeapHeader (header_of page id)
  pub clean : has_clean_header page ≡ true
  pub fields : header_allowed (last_page_of page) (given_of page) ≡ true
  pub both : (last_page_of page == 0) ≡ (given_of page == 0)
  pub rest : is_zeros (drop (given_at + 2) page) ≡ true

abbrev pub is_given : Content → Bool
is_given None = false
is_given (Some row) = true

-- a slot that was given, with fields that may stand there
pub record IsSlot (page : List ℕ) (slot : ℕ) : Type 0 where
  pub fault_none : fault_in page slot ≡ None
  pub given : is_given (content (slot_in page slot)) ≡ true

-- as many slots are given as the header says, from the first on, and all behind them is zeros
pub record IsRowPage (id : PageId) (page : List ℕ) : Type 0 where
  pub kind_is : IsOfKind kind.Heap (header_of page id)
  pub clean : has_clean_header page ≡ true
  pub slots : (s : ℕ) → s < count_in page → IsSlot page s
  pub rest : is_zeros (drop (slot_at (count_in page)) page) ≡ true

abbrev pub heap_last : Images → ℕ → ℕ
heap_last at table = last_page_of (at (heap_page table 0))

-- there is no heap yet, or its header page names the last page of rows and the slots given in it; behind that page all is zeros
pub record IsHeap (at : Images) (table : ℕ) : Type 0 where
  pub header : (is_zeros (at (heap_page table 0)) ≡ true) ⊎ IsHeapHeader (heap_page table 0) (at (heap_page table 0))
  pub pages : (p : ℕ) → 1 ≤ p → p ≤ heap_last at table → IsRowPage (heap_page table p) (at (heap_page table p))
  pub last : 1 ≤ heap_last at table → count_in (at (heap_page table (heap_last at table))) ≡ given_of (at (heap_page table 0))
  pub rest : (p : ℕ) → heap_last at table < p → is_zeros (at (heap_page table p)) ≡ true
