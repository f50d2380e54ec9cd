-- How the bytes of a page are lent.
use Rattle.std.specs.Prelude.{ℕ, List}
use Rattle.std.specs.Borrow.{Lends, MutBor, Fml, Array, u8}
use Rattle.page_format.specs.Fields.{page_size}
use Rattle.page_format.specs.contracts.page.Page.{the_row}

-- the page ends as the bytes that are left behind the reference
abbrev pub LendsBytes : MutBor (List ℕ) → MutBor (List ℕ) → Fml
LendsBytes page bytes = Lends the_row (Array u8 page_size) page bytes (λ last. last)
