-- Where pages show that they can't be those that were looked for.
use Rattle.std.specs.Prelude.{ℕ, ◌≤◌, ◌==◌, nat_lt, Bool, if◌then◌else◌, List, Option, None, Some, Result, Ok, Err}
use Rattle.ds_base.specs.declared.names.PageId.{PageId}
use Rattle.page_format.specs.Fields.{kind_at, count_at}
use Rattle.page_format.specs.Header.{header_of}
use Rattle.page_format.specs.declared.header.Header.{Header}
use Rattle.page_format.specs.declared.header.NotAPage.{NotAPage}
use Rattle.page_format.specs.declared.header.PageKind.{PageKind}
use Rattle.page_format.specs.declared.header.PageKind.TheVariants as kind
use Rattle.index_leaf.specs.Entries.{low_at, low_of, entries_of}
use Rattle.page_redo.specs.Rows.{or_fault}
use Rattle.rising_keys.specs.Falls.{fall_of}

-- ---- kinds

-- the number that the header of a page of the kind has, and 0 for an empty page
abbrev pub number_of : PageKind → ℕ
number_of kind.Empty = 0
number_of kind.HeapHeader = 1
number_of kind.Heap = 2
number_of kind.IndexHeader = 3
number_of kind.Branch = 4
number_of kind.Leaf = 5

abbrev pub is_kind : PageKind → PageKind → Bool
is_kind wanted k = number_of wanted == number_of k

-- where a page shows that it isn't of the wanted kind: in its kind, or, if it is empty, in its first byte
abbrev pub kind_fault : PageKind → PageKind → Option ℕ
kind_fault wanted k = if is_kind wanted k then None else if is_kind kind.Empty k then Some 0 else Some kind_at

abbrev pub headed_fault : PageKind → Result Header NotAPage → Option ℕ
headed_fault wanted (Err e) = Some e.at
headed_fault wanted (Ok h) = kind_fault wanted h.kind

-- where it shows that it isn't the page of this name, of the wanted kind
abbrev pub page_fault : PageKind → PageId → List ℕ → Option ℕ
page_fault wanted id page = headed_fault wanted (header_of page id)

abbrev pub unless_one : Option ℕ → Option ℕ → Option ℕ
unless_one None other = None
unless_one (Some at) other = other

-- a leaf or a branch has none
abbrev pub node_fault : PageId → List ℕ → Option ℕ
node_fault id page = unless_one (page_fault kind.Leaf id page) (page_fault kind.Branch id page)

abbrev pub counted_fault : ℕ → Result Header NotAPage → Option ℕ
counted_fault slot (Err e) = Some e.at
counted_fault slot (Ok h) = or_fault (kind_fault kind.Heap h.kind) (if h.count == slot then None else Some count_at)

-- where a page of the heap shows that the slot isn't the next one to be given in it
abbrev pub new_page_fault : PageId → ℕ → List ℕ → Option ℕ
new_page_fault id slot page = if slot == 0 then page_fault kind.Empty id page else counted_fault slot (header_of page id)

-- ---- pages of the index

-- of a branch or a leaf
abbrev pub IsNodeKind : PageKind → Type 0
IsNodeKind k = 4 ≤ number_of k

-- where a leaf or a branch shows that the key can't be looked for in it or to its right: its kind, its low key, or keys
-- that don't rise
abbrev pub search_fault : PageKind → PageId → ℕ → List ℕ → Option ℕ
search_fault wanted id key page =
    or_fault (page_fault wanted id page) (if nat_lt key (low_of page) then Some low_at else fall_of (entries_of page))
