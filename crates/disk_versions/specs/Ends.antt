-- How many pages of a page set are read.
use Rattle.std.specs.Prelude.{ℕ, ◌+◌, ◌-◌, ◌^◌, ◌<◌, ◌≤◌, ◌==◌, nat_lt, min, ◌&&◌, if◌then◌else◌, List, [], ◌∷◌, Result, Ok, Err}
use Rattle.ds_base.specs.declared.names.PageId.{PageId}
use Rattle.ds_model.specs.declared.log.LogRecord.{LogRecord}
use Rattle.page_format.specs.Header.{header_of}
use Rattle.page_format.specs.declared.header.Header.{Header}
use Rattle.page_format.specs.declared.header.NotAPage.{NotAPage}
use Rattle.page_format.specs.declared.header.PageKind.{PageKind}
use Rattle.page_format.specs.declared.header.PageKind.TheVariants as kind
use Rattle.heap_space.specs.Next.{last_page_of}
use Rattle.index_leaf.specs.Changes.{next_page_of}
use Rattle.page_images.specs.Images.{Images}
use Rattle.redone_pages.specs.Lasts.{last_in_records}
-- given out again: the last page of a page set that records change
pub use Rattle.redone_pages.specs.Lasts.{last_with, last_in_patches, last_in_records}

-- ---- by the header page

-- a heap's names its last page, and an index's the next free one
abbrev pub last_of_kind : PageKind → List ℕ → ℕ
last_of_kind kind.HeapHeader page = last_page_of page
last_of_kind kind.IndexHeader page = next_page_of page - 1
last_of_kind kind.Empty page = 0
last_of_kind kind.Heap page = 0
last_of_kind kind.Branch page = 0
last_of_kind kind.Leaf page = 0

abbrev pub last_by_header : Result Header NotAPage → List ℕ → ℕ
last_by_header (Ok header) page = last_of_kind header.kind page
last_by_header (Err fault) page = 0

-- ---- the pages that are read

abbrev pub page_of : ℕ → ℕ → PageId
page_of set number = record { set = set; number = number }

-- all up to the greater of the two, and so many behind it; a page's number has 32 bits
abbrev pub end_of : ℕ → ℕ → ℕ → ℕ
end_of by_header by_records behind = min ((if nat_lt by_header by_records then by_records else by_header) + behind + 1) (2 ^ 32)

-- how many pages of the set are read, from page 0 on
abbrev pub pages_read : Images → List LogRecord → ℕ → ℕ → ℕ
pages_read at records behind set = end_of (last_by_header (header_of (at (page_of set 0)) (page_of set 0)) (at (page_of set 0))) (last_in_records set 0 records) behind

-- the page is one of those that are read of the first so many page sets
pub record IsRead (at : Images) (records : List LogRecord) (behind sets : ℕ) (id : PageId) : Type 0 where
  pub set_from : 1 ≤ id.set
  pub set_to : id.set ≤ sets
  pub number_in : id.number < pages_read at records behind id.set
