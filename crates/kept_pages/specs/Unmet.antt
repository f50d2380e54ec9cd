-- The first page that doesn't meet a need.
use Rattle.std.specs.Prelude.{◌≡◌, ℕ, nat_le, nat_lt, ◌==◌, Bool, true, false, not, ◌&&◌, ◌||◌, if◌then◌else◌, List, Option, None, Some}
use Rattle.std.specs.List.{list_any, list_all}
use Rattle.ds_base.specs.declared.names.PageId.{PageId}
use Rattle.ds_base.specs.Pages.{same_page}
use Rattle.page_format.specs.Fields.{lrsn_of}
use Rattle.page_images.specs.Images.{Images}
use Rattle.kept_checkpoints.specs.declared.needs.Need.{Need}
use Rattle.kept_checkpoints.specs.Needs.{is_met}

-- by page set, and then by number
abbrev pub is_before : PageId → PageId → Bool
is_before a b = nat_lt a.set b.set || ((a.set == b.set) && nat_lt a.number b.number)

-- the page doesn't meet one of its needs
abbrev pub has_unmet : Images → List Need → PageId → Bool
has_unmet at needs id = list_any (λ (n : Need). same_page n.page id && not (is_met at n)) needs

pub record IsFirstUnmet (at : Images) (needs : List Need) (id : PageId) : Type 0 where
  pub unmet : has_unmet at needs id ≡ true
  pub first : (other : PageId) → is_before other id ≡ true → has_unmet at needs other ≡ false

-- the pages meet all needs, or this is the first that doesn't
abbrev pub AreJudged : Images → List Need → Option PageId → Type 0
AreJudged at needs None = list_all (is_met at) needs ≡ true
AreJudged at needs (Some id) = IsFirstUnmet at needs id

-- ---- one need more

abbrev pub lower : Option PageId → PageId → Option PageId
lower None id = Some id
lower (Some first) id = if is_before id first then Some id else Some first

abbrev pub judged_with : Bool → Option PageId → PageId → Option PageId
judged_with true first id = first
judged_with false first id = lower first id

-- a page of these bytes meets the need
abbrev pub meets : List ℕ → Need → Bool
meets page n = nat_le n.lrsn (lrsn_of page) && not n.is_open

-- ---- the page that was seen last

abbrev pub is_seen : Option PageId → PageId → Bool
is_seen None id = false
is_seen (Some last) id = same_page last id

-- it has these bytes
abbrev pub IsSeen : Images → Option PageId → List ℕ → Type 0
IsSeen at None page = Unit {0}
IsSeen at (Some last) page = page ≡ at last
