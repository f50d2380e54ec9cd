-- Where the fields of a branch or leaf page stand, and the entries that it holds.
use Rattle.std.specs.Prelude.{ℕ, zero, suc, ◌+◌, ◌<◌, ◌==◌, if◌then◌else◌, List, [], ◌∷◌, slice_index, Option, Some, None}
use Rattle.page_format.specs.Fields.{count_at, number_in}
use Rattle.index_leaf.specs.declared.layout.Entry.{Entry}

-- ---- where the fields begin

abbrev pub low_at : ℕ
low_at = 32

abbrev pub high_at : ℕ
high_at = 40

-- 1 where there is a high key
abbrev pub has_high_at : ℕ
has_high_at = 48

abbrev pub right_at : ℕ
right_at = 52

abbrev pub first_entry_at : ℕ
first_entry_at = 64

-- how many bytes an entry has
abbrev pub entry_width : ℕ
entry_width = 16

-- ---- fields

unfoldable pub count_of : List ℕ → ℕ
count_of page = number_in page count_at 2

-- no key of the page or of those to its right is below it
unfoldable pub low_of : List ℕ → ℕ
low_of page = number_in page low_at 8

-- the key in the field of the high key, whether or not there is one
unfoldable pub high_field : List ℕ → ℕ
high_field page = number_in page high_at 8

-- all keys of the page are below it
abbrev pub high_of : List ℕ → Option ℕ
high_of page = if slice_index page has_high_at == 1 then Some (high_field page) else None

-- the number in the field of the right page, 0 where there is none
unfoldable pub right_field : List ℕ → ℕ
right_field page = number_in page right_at 4

-- the page to the right
abbrev pub right_of : List ℕ → Option ℕ
right_of page = if right_field page == 0 then None else Some (right_field page)

-- ---- entries

-- the entry that begins at the offset
unfoldable pub entry_in : List ℕ → ℕ → Entry
entry_in page offset = record {
  key = number_in page offset 8;
  place = record { page = number_in page (offset + 8) 4; slot = number_in page (offset + 12) 2 };
}

-- so many entries, the first of which begins at the offset
abbrev pub entries_from : List ℕ → ℕ → ℕ → List Entry
entries_from page offset zero = []
entries_from page offset (suc n) = entry_in page offset ∷ entries_from page (offset + entry_width) n

abbrev pub entries_of : List ℕ → List Entry
entries_of page = entries_from page first_entry_at (count_of page)

-- ---- their order

-- each key is above this one
abbrev pub AllAbove : ℕ → List Entry → Type 0
AllAbove key [] = Unit {0}
AllAbove key (e ∷ es) = (key < e.key) × AllAbove key es

-- the keys rise strictly
abbrev pub IsRising : List Entry → Type 0
IsRising [] = Unit {0}
IsRising (e ∷ es) = AllAbove e.key es × IsRising es
