-- One step of a search through the index.
use Rattle.std.specs.Prelude.{ℕ, suc, leb, ◌==◌, ◌≤◌, Bool, false, if◌then◌else◌, List, [], ◌∷◌, slice_index, Contains, Option, Some, None}
use Rattle.ds_base.specs.declared.names.Place.{Place}
use Rattle.page_format.specs.Fields.{kind_at}
use Rattle.index_leaf.specs.declared.layout.Entry.{Entry}
use Rattle.index_leaf.specs.declared.step.Look.{Look}
use Rattle.index_leaf.specs.declared.step.Look.TheVariants.{Right, Down, Found, Absent}
use Rattle.index_leaf.specs.Entries.{high_of, right_field, entries_of}

-- whether the page is a branch, and not a leaf
abbrev pub is_branch : List ℕ → Bool
is_branch page = slice_index page kind_at == 4

abbrev pub or_else : Option Entry → Option Entry → Option Entry
or_else (Some e) other = Some e
or_else None other = other

-- of entries whose keys rise, the one with the greatest key that is not above this one
abbrev pub floor : List Entry → ℕ → Option Entry
floor [] key = None
floor (e ∷ es) key = or_else (floor es key) (if leb e.key key then Some e else None)

-- the entry of the key
abbrev pub find : List Entry → ℕ → Option Entry
find [] key = None
find (e ∷ es) key = if e.key == key then Some e else find es key

-- whether the key lies in a page further to the right
abbrev pub is_beyond : Option ℕ → ℕ → Bool
is_beyond None key = false
is_beyond (Some high) key = leb high key

abbrev pub down_to : Option Entry → Look
down_to None = Absent
down_to (Some e) = Down e.place.page

abbrev pub found_at : Option Entry → Look
found_at None = Absent
found_at (Some e) = Found e.place

-- where the search for a key goes from this page
abbrev pub look_of : List ℕ → ℕ → Look
look_of page key =
    if is_beyond (high_of page) key then Right (right_field page)
    else if is_branch page then down_to (floor (entries_of page) key)
    else found_at (find (entries_of page) key)

-- the entry as a pair
abbrev pub pair_of : Option Entry → Option (ℕ × Place)
pair_of None = None
pair_of (Some e) = Some (e.key, e.place)

-- how many entries stand before the first whose key is above this one
abbrev pub how_many : List Entry → ℕ → ℕ
how_many [] key = 0
how_many (e ∷ es) key = if leb e.key key then suc (how_many es key) else 0

-- among the entries whose keys are not above this one it has the greatest
pub record IsFloor (es : List Entry) (key : ℕ) (e : Entry) : Type 0 where
  pub among : Contains es e
  pub upto : e.key ≤ key
  pub greatest : (other : Entry) → Contains es other → other.key ≤ key → other.key ≤ e.key
