-- What all pages of a table have in common where all their bytes are right.
use Rattle.std.specs.Prelude.{◌≡◌, ℕ, Bool, ◌&&◌, List, Result, Ok, Err}
use Rattle.page_format.specs.Fields.{count_at, number_in}
use Rattle.page_format.specs.Header.{is_zeros}
use Rattle.page_format.specs.declared.header.Header.{Header}
use Rattle.page_format.specs.declared.header.NotAPage.{NotAPage}
use Rattle.page_format.specs.declared.header.PageKind.{PageKind}
use Rattle.page_images.specs.Parts.{part}

-- the header may be the page's, and is of this kind
abbrev pub IsOfKind : PageKind → Result Header NotAPage → Type 0
IsOfKind kind (Ok header) = header.kind ≡ kind
IsOfKind kind (Err fault) = ⊥

-- how many slots or entries the header says
abbrev pub count_in : List ℕ → ℕ
count_in page = number_in page count_at 2

-- the bytes of the header of version 2 that are no field's: four behind the name, and four behind the count
abbrev pub has_clean_header : List ℕ → Bool
has_clean_header page = is_zeros (part 12 4 page) && is_zeros (part 28 4 page)
