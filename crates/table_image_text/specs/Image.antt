-- The image of a table as bytes: its head, and then pages of the heap and of the index.
use Rattle.std.specs.Prelude.{ℕ, zero, suc, ◌+◌, ◌-◌, ◌*◌, nat_lt, if◌then◌else◌, List, [], ◌∷◌, ◌++◌, take, drop}
use Rattle.ds_base.specs.Ids.{lrsn_width}
use Rattle.ds_base.specs.Pages.{heap_page, index_page}
use Rattle.ds_base.specs.declared.names.PageId.{PageId}
use Rattle.byteorder.specs.Endian.{big_bytes}
use Rattle.page_format.specs.Fields.{page_size, number_in}
use Rattle.table_image_text.specs.Pages.{pages_counted, count_or_none}

-- ---- the head

-- DSIC
abbrev pub mark : List ℕ
mark = 0x44 ∷ 0x53 ∷ 0x49 ∷ 0x43 ∷ []

abbrev pub version : ℕ
version = 1

-- where its fields begin

abbrev pub mark_at : ℕ
mark_at = 0

abbrev pub version_at : ℕ
version_at = 4

abbrev pub table_at : ℕ
table_at = 5

abbrev pub lrsn_at : ℕ
lrsn_at = 6

abbrev pub heap_at : ℕ
heap_at = 16

abbrev pub index_at : ℕ
index_at = 20

abbrev pub head_size : ℕ
head_size = 24

-- the mark, the version, the table, the number (LRSN), and how many pages of the heap and of the index follow
unfoldable pub head_bytes : ℕ → ℕ → ℕ → ℕ → List ℕ
head_bytes table lrsn heap index = mark ++ version ∷ table ∷ [] ++ big_bytes lrsn_width lrsn ++ big_bytes 4 heap ++ big_bytes 4 index

-- ---- the pages

-- the name of a page by its place in the image, counted from 0: those of the heap come first, and then those of the index
abbrev pub page_name : ℕ → ℕ → ℕ → PageId
page_name table heap n = if nat_lt n heap then heap_page table n else index_page table (n - heap)

-- the bytes of the first so many pages
unfoldable pub pages_bytes : (PageId → List ℕ) → ℕ → ℕ → ℕ → List ℕ
pages_bytes at table heap zero = []
pages_bytes at table heap (suc n) = pages_bytes at table heap n ++ at (page_name table heap n)

-- ---- the whole image

-- how many pages of the heap and of the index the header pages count, none where one is empty
abbrev pub heap_count : (PageId → List ℕ) → ℕ → ℕ
heap_count at table = count_or_none (pages_counted (heap_page table 0) (at (heap_page table 0)))

abbrev pub index_count : (PageId → List ℕ) → ℕ → ℕ
index_count at table = count_or_none (pages_counted (index_page table 0) (at (index_page table 0)))

-- an image with so many pages of the heap and of the index
abbrev pub image_with : (PageId → List ℕ) → ℕ → ℕ → ℕ → ℕ → List ℕ
image_with at table lrsn heap index = head_bytes table lrsn heap index ++ pages_bytes at table heap (heap + index)

-- the image of a table whose pages are these
abbrev pub image_of : (PageId → List ℕ) → ℕ → ℕ → List ℕ
image_of at table lrsn = image_with at table lrsn (heap_count at table) (index_count at table)

-- ---- what stands in an image

abbrev pub heap_in : List ℕ → ℕ
heap_in bytes = number_in bytes heap_at 4

abbrev pub index_in : List ℕ → ℕ
index_in bytes = number_in bytes index_at 4

-- where a page begins
abbrev pub place_of : ℕ → ℕ
place_of n = head_size + page_size * n

-- the page at this place
abbrev pub page_in : List ℕ → ℕ → List ℕ
page_in bytes n = take page_size (drop (place_of n) bytes)
