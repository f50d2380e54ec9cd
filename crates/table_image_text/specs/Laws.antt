-- What is written is read.
use Rattle.std.specs.Prelude.{◌≡◌, ℕ, ◌+◌, ◌<◌, ◌≤◌, ◌^◌, List, length, None}
use Rattle.ds_base.specs.Ids.{IsLrsn}
use Rattle.ds_base.specs.declared.names.PageId.{PageId}
use Rattle.page_format.specs.Fields.{page_size, lrsn_of}
use Rattle.table_image_text.specs.Pages.{page_fault}
use Rattle.table_image_text.specs.Image.{page_name, image_with, heap_in, index_in, page_in}
use Rattle.table_image_text.specs.Faults.{image_fault}

-- the bytes are an image of the table with these pages
pub record IsReadAs (at : PageId → List ℕ) (table heap index greatest : ℕ) (bytes : List ℕ) : Type 0 where
  pub allowed : image_fault bytes table greatest ≡ None
  pub heap_is : heap_in bytes ≡ heap
  pub index_is : index_in bytes ≡ index
  pub pages_are : (n : ℕ) → n < heap + index → page_in bytes n ≡ at (page_name table heap n)

-- the image of pages that may stand in one has no fault, where its number and theirs are known, and has these pages
abbrev pub WrittenIsRead : Type 0
WrittenIsRead = (at : PageId → List ℕ) (table lrsn heap index greatest : ℕ) → IsLrsn lrsn → lrsn ≤ greatest → heap < 2 ^ 32 → index < 2 ^ 32 → ((id : PageId) → length (at id) ≡ page_size)
    → ((n : ℕ) → n < heap + index → page_fault (page_name table heap n) (at (page_name table heap n)) ≡ None)
    → ((n : ℕ) → n < heap + index → lrsn_of (at (page_name table heap n)) ≤ greatest)
    → IsReadAs at table heap index greatest (image_with at table lrsn heap index)
