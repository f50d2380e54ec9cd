-- In which order changed pages are written, so that no page is written before one that it newly points to.
use Rattle.std.specs.Prelude.{ℕ, ◌==◌, nat_lt, Bool, ◌&&◌, ◌||◌, if◌then◌else◌, List, slice_index, Option, Some, None, unwrap_or}
use Rattle.ds_base.specs.declared.names.PageId.{PageId}
use Rattle.index_leaf.specs.Entries.{low_of}
use Rattle.page_format.specs.Fields.{kind_at}
use Rattle.page_format.specs.Header.{is_heap, is_first}
use Rattle.write_order.specs.declared.rank.Rank.{Rank}
use Rattle.write_order.specs.declared.rank.Rank.TheVariants.{HeapPage, HeapHeader, Leaf, Branch, IndexHeader}

-- ---- the rank of a page

-- what the name of a page tells, which is nothing for a leaf or branch
abbrev pub rank_by_name : PageId → Option Rank
rank_by_name id =
    if is_heap id then (if is_first id then Some HeapHeader else Some HeapPage)
    else if is_first id then Some IndexHeader
    else None

abbrev pub is_branch : List ℕ → Bool
is_branch page = slice_index page kind_at == 4

-- a page of the index that isn't formatted yet ranks as a leaf
abbrev pub index_rank : List ℕ → Rank
index_rank page = if is_branch page then Branch (low_of page) else Leaf (low_of page)

abbrev pub rank_of : PageId → List ℕ → Rank
rank_of id page = unwrap_or (rank_by_name id) (index_rank page)

-- ---- the order of ranks

-- heap pages, then the header of the heap, leaves, branches, and the header of the index
abbrev pub turn_of : Rank → ℕ
turn_of HeapPage = 0
turn_of HeapHeader = 1
turn_of (Leaf low) = 2
turn_of (Branch low) = 3
turn_of IndexHeader = 4

-- the low key of a leaf or branch
abbrev pub low_key_of : Rank → ℕ
low_key_of HeapPage = 0
low_key_of HeapHeader = 0
low_key_of (Leaf low) = low
low_key_of (Branch low) = low
low_key_of IndexHeader = 0

-- the lesser number decides, and the rest where both are equal
abbrev pub then_by : ℕ → ℕ → Bool → Bool
then_by a b rest = nat_lt a b || ((a == b) && rest)

-- leaves by falling low key, and branches by falling low key
abbrev pub rank_before : Rank → Rank → Bool
rank_before a b = then_by (turn_of a) (turn_of b) (nat_lt (low_key_of b) (low_key_of a))
