-- The kind of a page, as a test, and two tests that agree.
use Rattle.std.specs.Prelude.{ℕ, ◌==◌, Bool, true, false, not, Result, Ok, Err}
use Rattle.page_format.specs.declared.header.Header.{Header}
use Rattle.page_format.specs.declared.header.NotAPage.{NotAPage}
use Rattle.page_format.specs.declared.header.PageKind.{PageKind}
use Rattle.page_format.specs.declared.header.PageKind.TheVariants as kind

-- the number of the kind in headers, 0 for a page without one
abbrev pub rank : PageKind → ℕ
rank kind.Empty = 0
rank kind.HeapHeader = 1
rank kind.Heap = 2
rank kind.IndexHeader = 3
rank kind.Branch = 4
rank kind.Leaf = 5

-- the header may be the page's, and is of this kind
abbrev pub has_kind : PageKind → Result Header NotAPage → Bool
has_kind kind (Ok header) = rank header.kind == rank kind
has_kind kind (Err fault) = false

abbrev pub both_or_neither : Bool → Bool → Bool
both_or_neither true b = b
both_or_neither false b = not b
