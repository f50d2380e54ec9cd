-- Places that may hold a page, and an index of the pages.
use Rattle.std.specs.Prelude.{ℕ, ◌≡◌, ◌≤◌, ◌==◌, ◌&&◌, Bool, false, List, length, slice_get, position, Option, Some, None, if◌then◌else◌}
use Rattle.std.specs.Option.{option_map_or}
use Rattle.std.specs.Map.{lookup}
use Rattle.ds_base.specs.Pages.{same_page}
use Rattle.ds_base.specs.declared.names.PageId.{PageId}

-- whether it is this page
abbrev pub is_page : PageId → Option PageId → Bool
is_page id page = option_map_or (same_page id) page false

abbrev pub same_key : ℕ × ℕ → ℕ × ℕ → Bool
same_key a b = (a.0 == b.0) && (a.1 == b.1)

abbrev pub key_of : PageId → ℕ × ℕ
key_of id = (id.set, id.number)

-- the place that is named for each page, and how many places there is room for
pub record Index : Type 0 where
  pub names : List ((ℕ × ℕ) × ℕ)
  pub size : ℕ

module _ {T : Type 0} (page : T → Option PageId) (places : List T) where
  -- the page that stands in the place of this number
  abbrev pub page_at : ℕ → Option PageId
  page_at f = option_map_or page (slice_get places f) None

  -- the number of the first place with the page
  abbrev pub find_place : PageId → Option ℕ
  find_place id = position (λ place. is_page id (page place)) places

  -- no page stands in two places
  abbrev pub AreApart : Type 0
  AreApart = (f g : ℕ) (id : PageId) → page_at f ≡ Some id → page_at g ≡ Some id → f ≡ g

  -- the place that was named, if the page still stands there
  abbrev pub confirmed : PageId → Option ℕ → Option ℕ
  confirmed id None = None
  confirmed id (Some f) = if is_page id (page_at f) then Some f else None

  -- this place is named for the page, if that stands there
  abbrev pub LeadsTo : List ((ℕ × ℕ) × ℕ) → ℕ → PageId → Type 0
  LeadsTo names f id = page_at f ≡ Some id → lookup (same_key (key_of id)) names ≡ Some f

  -- the index names the place of each page that stands somewhere, and has room for all places
  pub record IsIndexOf (index : Index) : Type 0 where
    pub leads : (f : ℕ) (id : PageId) → LeadsTo index.names f id
    pub room : length places ≤ index.size
