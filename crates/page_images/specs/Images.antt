-- The pages of the disk by their names, what a change makes of them, and what a page begins with.
use Rattle.std.specs.Prelude.{◌≡◌, ℕ, ◌==◌, false, List, [], ◌∷◌, take, length}
use Rattle.ds_base.specs.declared.names.PageId.{PageId}
use Rattle.page_format.specs.Fields.{page_size, lrsn_of}
use Rattle.page_format.specs.declared.patch.Patch.{Patch}
use Rattle.heap_space.specs.Written.{written}
use Rattle.ds_base.specs.Pages.{same_page}
use Rattle.index_leaf.specs.Changes.{front_of}
use Rattle.index_leaf.specs.Changes.{zeros as zero_bytes}
-- given out again: the patches of a page, and the page after them
pub use Rattle.index_leaf.specs.Nodes.{patches_for, all_stamped}

-- the bytes of each page
abbrev pub Images : Type 0
Images = PageId → List ℕ

-- the bytes of a page that was never written
abbrev pub zeros : List ℕ
zeros = zero_bytes page_size

-- the pages after the patches of a change with this LRSN, in their order
abbrev pub after_change : ℕ → List Patch → Images → Images
after_change lrsn patches at = λ id. written id lrsn patches (at id)

-- how many bytes the mark, the kind, the version and the page's name take
abbrev pub front_width : ℕ
front_width = 12

-- a whole page that begins with the mark, this kind, the version and this name
pub record HasFront (page : List ℕ) (id : PageId) (kind : ℕ) : Type 0 where
  pub whole : length page ≡ page_size
  pub begins : take front_width page ≡ front_of kind id

-- a change was written to the page
abbrev pub IsStamped : List ℕ → Type 0
IsStamped page = (lrsn_of page == 0) ≡ false

-- no patch is for this page
abbrev pub IsFree : PageId → List Patch → Type 0
IsFree id [] = Unit {0}
IsFree id (p ∷ ps) = (same_page p.page id ≡ false) × IsFree id ps
