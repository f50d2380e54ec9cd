-- Where the fields of a page's header stand, and how a page is patched.
use Rattle.std.specs.Prelude.{ℕ, ◌+◌, ◌==◌, Bool, if◌then◌else◌, List, [], ◌∷◌, ◌++◌, length, take, drop, slice_index}
use Rattle.ds_base.specs.Ids.{lrsn_width, old_lrsn_width}
use Rattle.byteorder.specs.Endian.{big_bytes, big_number}

abbrev pub page_size : ℕ
page_size = 4096

-- ---- where the fields of the header begin

abbrev pub mark_at : ℕ
mark_at = 0

abbrev pub kind_at : ℕ
kind_at = 4

abbrev pub version_at : ℕ
version_at = 5

abbrev pub set_at : ℕ
set_at = 6

abbrev pub number_at : ℕ
number_at = 8

abbrev pub lrsn_at : ℕ
lrsn_at = 16

abbrev pub count_at : ℕ
count_at = 26

-- ---- their numbers

-- the number in so many bytes from this offset on
abbrev pub number_in : List ℕ → ℕ → ℕ → ℕ
number_in page offset width = big_number width (drop offset page)

-- ---- versions

-- pages are written in this version
abbrev pub version : ℕ
version = 2

-- and are read in this one too, whose LRSN is shorter
abbrev pub old_version : ℕ
old_version = 1

abbrev pub is_old : List ℕ → Bool
is_old page = slice_index page version_at == old_version

-- how many bytes the LRSN of the page has
abbrev pub width_in : List ℕ → ℕ
width_in page = if slice_index page version_at == version then lrsn_width else old_lrsn_width

-- the LRSN of the last change
abbrev pub lrsn_of : List ℕ → ℕ
lrsn_of page = number_in page lrsn_at (width_in page)

-- ---- changes

-- the page with these bytes from this offset on
unfoldable pub patched : List ℕ → ℕ → List ℕ → List ℕ
patched page offset bytes = take offset page ++ bytes ++ drop (offset + length bytes) page

-- the page in the version that is written
unfoldable pub set_version : List ℕ → List ℕ
set_version page = patched page version_at (version ∷ [])

-- the page in that version, with this number as the LRSN of its last change
unfoldable pub set_lrsn : List ℕ → ℕ → List ℕ
set_lrsn page lrsn = patched (set_version page) lrsn_at (big_bytes lrsn_width lrsn)

-- the page in that version, with the same LRSN
unfoldable pub renewed : List ℕ → List ℕ
renewed page = set_lrsn page (lrsn_of page)
