-- The retained pages that are known, in the order in which they are written.
use Rattle.std.specs.Prelude.{ℕ, ◌-◌, ◌^◌, List, Option, None, Some}
use Rattle.std.specs.Ordering.{nat_cmp, on, then_cmp}
use Rattle.std.specs.declared.cmp.Ordering.{Ordering}
use Rattle.std.specs.BTreeMap.{is_at}
use Rattle.std.specs.BTreeSet.{insert_key}
use Rattle.std.specs.Set.{remove_key}
use Rattle.ds_base.specs.declared.names.PageId.{PageId}
use Rattle.page_records.specs.Pages.{page_cmp}
use Rattle.write_order.specs.declared.rank.Rank.{Rank}
use Rattle.write_order.specs.declared.rank.Rank.TheVariants.{HeapPage, HeapHeader, Leaf, Branch, IndexHeader}
use Rattle.write_order.specs.Ranks.{rank_by_name}
use Rattle.restart_records.specs.declared.queue.TurnKey.{TurnKey}

-- ---- where a page stands

abbrev pub turn_of : Rank → ℕ
turn_of HeapPage = 1
turn_of HeapHeader = 2
turn_of (Leaf low) = 3
turn_of (Branch low) = 4
turn_of IndexHeader = 5

-- the greater low key comes first
abbrev pub from_end : Rank → ℕ
from_end HeapPage = 0
from_end HeapHeader = 0
from_end (Leaf low) = 2 ^ 64 - 1 - low
from_end (Branch low) = 2 ^ 64 - 1 - low
from_end IndexHeader = 0

abbrev pub ranked_key : PageId → Rank → TurnKey
ranked_key p r = record { turn = turn_of r; from_end = from_end r; page = p }

-- one whose rank isn't known stands before all others
abbrev pub key_with : PageId → Option Rank → TurnKey
key_with p None = record { turn = 0; from_end = 0; page = p }
key_with p (Some r) = ranked_key p r

-- by the page's name alone
abbrev pub key_by_name : PageId → TurnKey
key_by_name p = key_with p (rank_by_name p)

-- ---- their order: by turn, then by low key, and then by name

abbrev pub turn_cmp : TurnKey → TurnKey → Ordering
turn_cmp = then_cmp (then_cmp (on (λ (k : TurnKey). k.turn) nat_cmp) (on (λ (k : TurnKey). k.from_end) nat_cmp)) (on (λ (k : TurnKey). k.page) page_cmp)

abbrev pub put_in : List TurnKey → TurnKey → List TurnKey
put_in keys k = insert_key turn_cmp keys k

abbrev pub taken_out : List TurnKey → TurnKey → List TurnKey
taken_out keys k = remove_key (is_at (turn_cmp k)) keys
