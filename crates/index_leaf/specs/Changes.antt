-- What changes of the index write.
use Rattle.std.specs.Prelude.{◌≡◌, ℕ, ◌+◌, ◌*◌, leb, ◌==◌, if◌then◌else◌, List, [], ◌∷◌, ◌++◌, take, drop, length, replicate, Some, slice_range, slice_index}
use Rattle.ds_base.specs.Pages.{index_page}
use Rattle.ds_base.specs.declared.names.PageId.{PageId}
use Rattle.byteorder.specs.Endian.{big_bytes}
use Rattle.page_format.specs.Fields.{page_size, kind_at, set_at, number_at, count_at, version, number_in, patched}
use Rattle.page_format.specs.Header.{mark, entries_per_page}
use Rattle.page_format.specs.declared.patch.Patch.{Patch}
use Rattle.index_leaf.specs.declared.layout.Entry.{Entry}
use Rattle.index_leaf.specs.declared.growth.Inserted.{Inserted}
use Rattle.index_leaf.specs.declared.growth.Inserted.TheVariants.{MustSplit, Done}
use Rattle.index_leaf.specs.Entries.{low_at, high_at, right_at, entry_in, first_entry_at, entry_width, count_of, low_of, high_of, right_field, entries_of}
use Rattle.index_leaf.specs.Search.{how_many}

-- ---- patches

-- the name that the page's header gives
unfoldable pub id_of : List ℕ → PageId
id_of page = record { set = number_in page set_at 2; number = number_in page number_at 4 }

abbrev pub patch_of : PageId → ℕ → List ℕ → Patch
patch_of id offset bytes = record { page = id; offset = offset; bytes = bytes }

-- the number in so many bytes, the highest first
unfoldable pub spelt : ℕ → ℕ → List ℕ
spelt width number = big_bytes width number

-- the page after these patches
abbrev pub all_patched : List ℕ → List Patch → List ℕ
all_patched page [] = page
all_patched page (p ∷ ps) = all_patched (patched page p.offset p.bytes) ps

-- ---- the next free page

-- where the number of the next free page begins in the header of an index
abbrev pub next_at : ℕ
next_at = 32

unfoldable pub next_page_of : List ℕ → ℕ
next_page_of header = number_in header next_at 4

abbrev pub next_patch : PageId → ℕ → Patch
next_patch id next = patch_of id next_at (spelt 4 next)

-- ---- a new entry

unfoldable pub entry_bytes : Entry → List ℕ
entry_bytes e = spelt 8 e.key ++ spelt 4 e.place.page ++ spelt 2 e.place.slot ++ 0 ∷ 0 ∷ []

abbrev pub count_patch : PageId → ℕ → Patch
count_patch id count = patch_of id count_at (spelt 2 count)

-- where the entry of this place begins
abbrev pub entry_offset : ℕ → ℕ
entry_offset at = first_entry_at + entry_width * at

-- the new entry before the one at this place, and all from that one on
unfoldable pub moved_patch : List ℕ → Entry → ℕ → Patch
moved_patch page e at =
    patch_of (id_of page) (entry_offset at) (entry_bytes e ++ slice_range page (entry_offset at) (entry_offset (count_of page)))

abbrev pub insert_patches : List ℕ → Entry → List Patch
insert_patches page e =
    count_patch (id_of page) (count_of page + 1)
    ∷ moved_patch page e (how_many (entries_of page) e.key)
    ∷ []

-- the entries with one more, in the order of the keys
abbrev pub entered : List Entry → Entry → List Entry
entered [] e = e ∷ []
entered (x ∷ xs) e = if leb x.key e.key then x ∷ entered xs e else e ∷ x ∷ xs

-- what the insertion of an entry answers
abbrev pub inserted : List ℕ → Entry → Inserted
inserted page e = if count_of page == entries_per_page then MustSplit else Done (insert_patches page e)

-- the patched page has the old entries and the new one
abbrev pub Enters : List ℕ → Entry → Inserted → Type 0
Enters page e MustSplit = Unit {0}
Enters page e (Done patches) = entries_of (all_patched page patches) ≡ entered (entries_of page) e

-- ---- a new index

abbrev pub index_header : ℕ
index_header = 3

abbrev pub branch : ℕ
branch = 4

abbrev pub leaf : ℕ
leaf = 5

-- the header of a page of this kind
unfoldable pub front_of : ℕ → PageId → List ℕ
front_of kind id = mark ++ kind ∷ version ∷ [] ++ spelt 2 id.set ++ spelt 4 id.number

abbrev pub front_patch : ℕ → PageId → Patch
front_patch kind id = patch_of id 0 (front_of kind id)

-- the entry that leads every key to page 2
abbrev pub first_entry : Entry
first_entry = record { key = 0; place = record { page = 2; slot = 0 } }

-- page 0 says that page 3 is the next free one; page 1 is a branch that leads all keys to page 2, a leaf without entries
abbrev pub format_patches : ℕ → List Patch
format_patches table =
    front_patch index_header (index_page table 0)
    ∷ next_patch (index_page table 0) 3
    ∷ front_patch branch (index_page table 1)
    ∷ count_patch (index_page table 1) 1
    ∷ patch_of (index_page table 1) first_entry_at (entry_bytes first_entry)
    ∷ front_patch leaf (index_page table 2)
    ∷ []

-- ---- the split of a full page

-- the entries from this one on go to the right page
abbrev pub half : ℕ
half = 126

abbrev pub low_of_split : List ℕ → ℕ
low_of_split left = (entry_in left (entry_offset half)).key

-- all keys are below the high key, and the others are in the page of this number
unfoldable pub link_bytes : ℕ → ℕ → List ℕ
link_bytes high right = spelt 8 high ++ 1 ∷ 0 ∷ 0 ∷ 0 ∷ [] ++ spelt 4 right

unfoldable pub zeros : ℕ → List ℕ
zeros count = replicate count 0

-- the left page keeps its first half; the others are zeroed
abbrev pub left_patches : List ℕ → ℕ → List Patch
left_patches left right_number =
    count_patch (id_of left) half
    ∷ patch_of (id_of left) high_at (link_bytes (low_of_split left) right_number)
    ∷ patch_of (id_of left) (entry_offset half) (zeros (entry_width * half))
    ∷ []

abbrev pub right_id : List ℕ → ℕ → PageId
right_id left right_number = record { set = (id_of left).set; number = right_number }

-- the fields of the right page: its low key, and the left page's old high key and right number
unfoldable pub fields_bytes : List ℕ → List ℕ
fields_bytes left = spelt 8 (low_of_split left) ++ slice_range left high_at (right_at + 4)

-- the second half of the entries
unfoldable pub half_bytes : List ℕ → List ℕ
half_bytes left = slice_range left (entry_offset half) page_size

abbrev pub right_patches : List ℕ → ℕ → List Patch
right_patches left right_number =
    front_patch (slice_index left kind_at) (right_id left right_number)
    ∷ count_patch (right_id left right_number) half
    ∷ patch_of (right_id left right_number) low_at (fields_bytes left)
    ∷ patch_of (right_id left right_number) first_entry_at (half_bytes left)
    ∷ []

-- the left page keeps the first half of its entries, and leads from the low key of the right page on to that page
pub record IsLeftOf (left new : List ℕ) (low number : ℕ) : Type 0 where
  pub whole : length new ≡ page_size
  pub kind : slice_index new kind_at ≡ slice_index left kind_at
  pub entries : entries_of new ≡ take half (entries_of left)
  pub low_key : low_of new ≡ low_of left
  pub high_key : high_of new ≡ Some low
  pub right_page : right_field new ≡ number

-- the right page has the second half of the entries, and the high key and right number that the left one had
pub record IsRightOf (left new : List ℕ) (low : ℕ) : Type 0 where
  pub whole : length new ≡ page_size
  pub kind : slice_index new kind_at ≡ slice_index left kind_at
  pub entries : entries_of new ≡ drop half (entries_of left)
  pub low_key : low_of new ≡ low
  pub high_key : high_of new ≡ high_of left
  pub right_page : right_field new ≡ right_field left
