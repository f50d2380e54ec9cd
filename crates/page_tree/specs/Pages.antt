-- A set of pages, and how many more it has room for.
use Rattle.std.specs.Prelude.{ℕ, Bool, false, ◌||◌, List, [], ◌∷◌}
use Rattle.ds_base.specs.declared.names.PageId.{PageId}
use Rattle.ds_base.specs.Pages.{same_page}

abbrev pub is_in : PageId → List PageId → Bool
is_in q [] = false
is_in q (p ∷ ps) = same_page q p || is_in q ps

pub record Pages : Type 0 where
  pub listed : List PageId
  pub room : ℕ

-- whether the page is in the set
abbrev pub has : Pages → PageId → Bool
has set q = is_in q set.listed
