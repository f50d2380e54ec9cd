-- The nodes that are read, by page number.
use Rattle.std.proofs.Common.{◌≡◌, ℕ, zero, suc, ◌+◌, ◌-◌, ◌<◌, ◌≤◌, Bool, true, ◌&&◌, List, [], ◌∷◌, ◌++◌, Option, Some, None, refl, sym, ap, ◌∙◌, arith, inl, inr, append_assoc}
use Rattle.std.specs.Prelude.{◌==◌, slice_get}
use Rattle.std.proofs.lemmas.Bool.{cases_lt}
use Rattle.std.proofs.lemmas.List.{append-nil}
use Rattle.ds_base.specs.Pages.{index_page}
use Rattle.index_leaf.specs.Entries.{low_of}
use Rattle.index_leaf.specs.Search.{is_branch}
use Rattle.page_images.specs.Images.{Images}
use Rattle.sound_disk.specs.Indexes.{index_next, AreIndexPages}
use Rattle.sound_disk.specs.Index_views.{kind_in}
use Rattle.table_pages.specs.Kinds.{both_or_neither}
use Rattle.table_pages.proofs.Booleans.{and_left, and_right, and_both, equal, itself, both_same, same_both}
use Rattle.index_links.specs.declared.nodes.Node.{Node}
use Rattle.index_links.specs.Nodes.{node_of, nodes_from}
use Rattle.index_links.specs.Links.{node_at, is_at}
use Rattle.index_links.proofs.Kinds_in.{InIndex, named, named_made, named_is, made_inside, inside_named}

-- ---- reading

from_step : (at : Images) (table first m n : ℕ) → m ≡ suc n → nodes_from at table first m ≡ node_of (at (index_page table first)) ∷ nodes_from at table (first + 1) n
from_step at table first m n e = ap (nodes_from at table first) e

pub nodes_more : (at : Images) (table first next : ℕ) (nodes : List Node) (node : Node) (all : List Node) → first < next → node ≡ node_of (at (index_page table first))
    → nodes ++ nodes_from at table first (next - first) ≡ all → (nodes ++ node ∷ []) ++ nodes_from at table (first + 1) (next - (first + 1)) ≡ all
nodes_more at table first next nodes node all lt e h =
    let rest : List Node = nodes_from at table (first + 1) (next - (first + 1)) in
    append_assoc nodes (node ∷ []) rest
    ∙ ap (λ (x : Node). nodes ++ x ∷ rest) e
    ∙ ap (λ (xs : List Node). nodes ++ xs) (sym (from_step at table first (next - first) (next - (first + 1)) (omega (arith, lt))))
    ∙ h

pub nodes_read : (at : Images) (table first next : ℕ) (nodes all : List Node) → next ≤ first → nodes ++ nodes_from at table first (next - first) ≡ all → nodes ≡ all
nodes_read at table first next nodes all le h =
    let none : next - first ≡ 0 = omega (arith, le) in
    sym (ap (λ (m : ℕ). nodes ++ nodes_from at table first m) none ∙ append-nil nodes) ∙ h

-- ---- by number

get_from : (at : Images) (table first count i : ℕ) → i < count → slice_get (nodes_from at table first count) i ≡ Some (node_of (at (index_page table (first + i))))
get_from at table first zero i lt = absurd (omega (arith, lt))
get_from at table first (suc n) zero lt = ap (λ (m : ℕ). Some (node_of (at (index_page table m)))) (omega arith)
get_from at table first (suc n) (suc i) lt =
    let there : first + 1 + i ≡ first + suc i = omega arith in
    get_from at table (first + 1) n i (omega (arith, lt)) ∙ ap (λ (m : ℕ). Some (node_of (at (index_page table m)))) there

get_past : (at : Images) (table first count i : ℕ) → count ≤ i → slice_get (nodes_from at table first count) i ≡ None
get_past at table first zero i le = refl
get_past at table first (suc n) zero le = absurd (omega (arith, le))
get_past at table first (suc n) (suc i) le = get_past at table (first + 1) n i (omega (arith, le))

-- those of the index
abbrev pub nodes_of : Images → ℕ → List Node
nodes_of at table = nodes_from at table 1 (index_next at table - 1)

pub node_in : (at : Images) (table n : ℕ) → InIndex at table n → node_at (nodes_of at table) n ≡ Some (node_of (at (index_page table n)))
node_in at table zero i = let from = i.from in absurd (omega (arith, from))
node_in at table (suc n) i =
    let to = i.to in
    let there : 1 + n ≡ suc n = omega arith in
    get_from at table 1 (index_next at table - 1) n (omega (arith, to)) ∙ ap (λ (m : ℕ). Some (node_of (at (index_page table m)))) there

node_first : (nodes : List Node) (n : ℕ) → n < 1 → node_at nodes n ≡ None
node_first nodes zero lt = refl
node_first nodes (suc n) lt = absurd (omega (arith, lt))

node_past : (at : Images) (table n : ℕ) → 1 ≤ n → index_next at table ≤ n → node_at (nodes_of at table) n ≡ None
node_past at table zero from le = absurd (omega (arith, from))
node_past at table (suc n) from le = get_past at table 1 (index_next at table - 1) n (omega (arith, le))

-- ---- a node of this kind with this low key

pub record IsThere (at : Images) (table c : ℕ) (b : Bool) (low : ℕ) : Type 0 where
  pub inside : InIndex at table c
  pub branch_is : is_branch (at (index_page table c)) ≡ b
  pub low_is : low_of (at (index_page table c)) ≡ low

not_none : (o : Option Node) (b : Bool) (low : ℕ) → o ≡ None → is_at o b low ≡ true → ⊥
not_none None b low e h = absurd cc
not_none (Some node) b low e h = absurd cc

pub there : (at : Images) (table c : ℕ) (b : Bool) (low : ℕ) → is_at (node_at (nodes_of at table) c) b low ≡ true → IsThere at table c b low
there at table c b low h =
    elim (cases_lt c 1) as (λ _. IsThere at table c b low) [
      | inl lt ↦ absurd (not_none (node_at (nodes_of at table) c) b low (node_first (nodes_of at table) c lt) h)
      | inr from ↦ elim (cases_lt c (index_next at table)) as (λ _. IsThere at table c b low) [
        | inl to ↦ is_node (record { from = from; to = to })
        | inr le ↦ absurd (not_none (node_at (nodes_of at table) c) b low (node_past at table c from le) h)
      ]
    ]
  where
    is_node : InIndex at table c → IsThere at table c b low
    is_node i =
        let page : List ℕ = at (index_page table c) in
        let t : both_or_neither (is_branch page) b && (low_of page == low) ≡ true = ap (λ (o : Option Node). is_at o b low) (sym (node_in at table c i)) ∙ h in
        record {
          inside = i;
          branch_is = both_same (is_branch page) b (and_left (both_or_neither (is_branch page) b) (low_of page == low) t);
          low_is = equal (low_of page) low (and_right (both_or_neither (is_branch page) b) (low_of page == low) t);
        }

pub is_there : (at : Images) (table c : ℕ) (b : Bool) (low : ℕ) → IsThere at table c b low → is_at (node_at (nodes_of at table) c) b low ≡ true
is_there at table c b low h =
    let page : List ℕ = at (index_page table c) in
    ap (λ (o : Option Node). is_at o b low) (node_in at table c h.inside)
    ∙ and_both (both_or_neither (is_branch page) b) (low_of page == low) (same_both (is_branch page) b h.branch_is) (ap (λ (x : ℕ). x == low) h.low_is ∙ itself low)

pub kind_there : (at : Images) (table c : ℕ) (b : Bool) (low : ℕ) → AreIndexPages at table → IsThere at table c b low → kind_in (at (index_page table c)) ≡ named b
kind_there at table c b low p h = inside_named at table c p h.inside ∙ ap named h.branch_is

pub there_kind : (at : Images) (table c : ℕ) (b : Bool) (low : ℕ) → AreIndexPages at table → kind_in (at (index_page table c)) ≡ named b → low_of (at (index_page table c)) ≡ low → IsThere at table c b low
there_kind at table c b low p k l = record {
  inside = made_inside at table c p (named_made b (kind_in (at (index_page table c))) k);
  branch_is = named_is (at (index_page table c)) b k;
  low_is = l;
}

-- ---- by place in the list

pub got_in : (at : Images) (table i : ℕ) (node : Node) → slice_get (nodes_of at table) i ≡ Some node → InIndex at table (1 + i)
got_in at table i node g =
    elim (cases_lt i (index_next at table - 1)) as (λ _. InIndex at table (1 + i)) [
      | inl lt ↦ record { from = omega arith; to = omega (arith, lt) }
      | inr le ↦ absurd (cc (g, get_past at table 1 (index_next at table - 1) i le))
    ]

pub got_is : (at : Images) (table i : ℕ) (node : Node) → slice_get (nodes_of at table) i ≡ Some node → node ≡ node_of (at (index_page table (1 + i)))
got_is at table i node g =
    let in_it = got_in at table i node g in
    let to = in_it.to in
    node_same node (node_of (at (index_page table (1 + i)))) (sym g ∙ get_from at table 1 (index_next at table - 1) i (omega (arith, to)))
  where
    node_same : (a b : Node) → Some a ≡ Some b → a ≡ b
    node_same a b q = cc

pub get_in : (at : Images) (table n : ℕ) → InIndex at table n → (i : ℕ) × ((1 + i ≡ n) × (slice_get (nodes_of at table) i ≡ Some (node_of (at (index_page table n)))))
get_in at table zero i = let from = i.from in absurd (omega (arith, from))
get_in at table (suc n) i = (n, (omega arith, node_in at table (suc n) i))
