-- Where the links and the entries of branches lead, as tests.
use Rattle.std.specs.Prelude.{ℕ, zero, suc, ◌==◌, nat_lt, Bool, true, false, not, ◌&&◌, ◌||◌, if◌then◌else◌, List, [], ◌∷◌, slice_get, Option, None, Some, is_some}
use Rattle.std.specs.List.{list_all}
use Rattle.std.specs.FinMap as finite
use Rattle.ds_model.specs.Rows.{spot_cmp}
use Rattle.index_leaf.specs.declared.layout.Entry.{Entry}
use Rattle.index_leaf.specs.Entries.{entries_of}
use Rattle.table_pages.specs.Kinds.{both_or_neither}
use Rattle.index_links.specs.declared.nodes.Node.{Node}
use Rattle.index_links.specs.Nodes.{node_of}

-- the node of a page number, from 1 on
abbrev pub node_at : List Node → ℕ → Option Node
node_at nodes zero = None
node_at nodes (suc n) = slice_get nodes n

abbrev pub is_at : Option Node → Bool → ℕ → Bool
is_at None is_branch low = false
is_at (Some node) is_branch low = both_or_neither node.is_branch is_branch && (node.low == low)

-- ---- links

-- page 1 is the first branch and page 2 the first leaf; all others begin at later keys
abbrev pub begins : ℕ → Node → Bool
begins number node =
    if number == 1 then node.is_branch && (node.low == 0)
    else if number == 2 then not node.is_branch && (node.low == 0)
    else nat_lt 0 node.low

abbrev pub goes_on : List Node → Node → Option ℕ → Bool
goes_on nodes node None = true
goes_on nodes node (Some high) = nat_lt node.low high && is_at (node_at nodes node.right) node.is_branch high

-- the link leads to a page of the same kind that begins where this one ends
abbrev pub leads_on : List Node → Node → Bool
leads_on nodes node = goes_on nodes node node.high

abbrev pub has_right : Node → Bool
has_right node = not node.is_branch && is_some node.high

-- by table and page number
abbrev pub Rights : Type 0
Rights = finite.FinMap spot_cmp Bool

abbrev pub with_right : ℕ → Rights → Node → Rights
with_right table rights node = if has_right node then finite.insert rights (table, node.right) true else rights

-- the pages to the right of leaves
abbrev pub rights_from : ℕ → Rights → List Node → Rights
rights_from table rights [] = rights
rights_from table rights (node ∷ rest) = rights_from table (with_right table rights node) rest

abbrev pub reached_in : Rights → ℕ → ℕ → Bool
reached_in rights table number = is_some (finite.get rights (table, number))

-- the page is right in its low key and its link, and a leaf but the first is to the right of a leaf
abbrev pub node_stands : List Node → Bool → ℕ → Node → Bool
node_stands nodes reached number node = begins number node && (leads_on nodes node && (node.is_branch || ((number == 2) || reached)))

-- ---- entries

abbrev pub leads_down : List Node → Entry → Bool
leads_down nodes e = is_at (node_at nodes e.place.page) false e.key

abbrev pub starts : ℕ → List Entry → Bool
starts low [] = false
starts low (e ∷ es) = e.key == low

-- a branch's entries lead to leaves by their low keys, the first at the branch's own
abbrev pub entries_stand : List Node → Node → List Entry → Bool
entries_stand nodes node es = not node.is_branch || (starts node.low es && list_all (leads_down nodes) es)

abbrev pub page_stands : List Node → List ℕ → Bool
page_stands nodes page = entries_stand nodes (node_of page) (entries_of page)

-- ---- pages

-- whether the page of this number is to the right of a leaf
abbrev pub reached_among : ℕ → List Node → ℕ → Bool
reached_among table nodes number = reached_in (rights_from table finite.empty nodes) table number

-- it is right in its low key, its link and its entries, and in its place in the row of leaves
abbrev pub is_linked : ℕ → List Node → ℕ → List ℕ → Bool
is_linked table nodes number page = node_stands nodes (reached_among table nodes number) number (node_of page) && page_stands nodes page
