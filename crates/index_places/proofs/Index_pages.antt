-- The pages of an index.
use Rattle.std.proofs.Common.{◌≡◌, ℕ, ◌+◌, ◌-◌, ◌<◌, ◌≤◌, min, Bool, true, false, not, List, [], ◌∷◌, ◌↔◌, Result, Ok, Err, refl, sym, ap, subst, ◌∙◌, arith, inl, inr}
use Rattle.std.specs.Prelude.{Contains, slice_index, IsTrue, IfOk}
use Rattle.std.specs.FinMap.{empty}
use Rattle.std.proofs.lemmas.Bool.{cases_lt}
use Rattle.std.proofs.lemmas.Bool.Decides.{nat_tests}
use Rattle.ds_base.specs.Pages.{index_page, index_set}
use Rattle.ds_base.specs.declared.names.PageId.{PageId}
use Rattle.ds_model.specs.declared.log.LogRecord.{LogRecord}
use Rattle.page_format.specs.Header.{is_zeros}
use Rattle.index_leaf.specs.Changes.{next_page_of}
use Rattle.page_images.specs.Images.{Images, zeros}
use Rattle.page_chain.specs.Chains.{images_of, LeavesOthers}
use Rattle.sound_disk.specs.Indexes.{IsNodePage, AreIndexPages, index_next}
use Rattle.sound_disk.specs.Index_views.{kind_in}
use Rattle.disk_versions.specs.Ends.{last_in_records}
use Rattle.table_images.specs.Nodes.{NodeStands, NodeStandsAt, last_node, is_formatted}
use Rattle.table_images.proofs.Untouched.{never_changed}
use Rattle.table_pages.proofs.Booleans.{and_left, and_right, and_both}
use Rattle.heap_rows.proofs.Heaps.{blank_number}
use Rattle.index_links.specs.declared.nodes.Node.{Node}
use Rattle.index_links.specs.Nodes.{nodes_from}
use Rattle.index_links.specs.Links.{is_linked}
use Rattle.index_links.proofs.Kinds_in.{byte_kind, inside_made}
use Rattle.index_places.specs.declared.slots.Given.{Given}
use Rattle.index_places.specs.declared.tree.IndexTree.{IndexTree}
use Rattle.index_places.specs.Placing.{Places, places_from, leaf_stands, AreGiven}
use Rattle.index_places.specs.Trees.{IsTreeOf, node_passes, Passes}
use Rattle.index_places.specs.Whole.{IsFirstWrong, nodes_in, HasNoKey, IsRightNode, IsRightIndexPage}
use Rattle.index_places.proofs.Orders.{Of, first_by}
use Rattle.index_places.proofs.Leaf_tests.{Test, test_right, right_test}

-- ---- whether the index is formatted

pub blank_next : (at : Images) (table : ℕ) → is_zeros (at (index_page table 0)) ≡ true → index_next at table ≡ 0
unfolding next_page_of
blank_next at table z = blank_number (at (index_page table 0)) 32 4 z

not_false : (b : Bool) → not b ≡ false → b ≡ true
not_false true h = refl
not_false false h = absurd cc

not_by : (b : Bool) → (b ≡ true → ⊥) → not b ≡ true
not_by true h = absurd (h refl)
not_by false h = refl

pub unformatted_next : (at : Images) (table : ℕ) → is_formatted at table ≡ false → index_next at table ≡ 0
unformatted_next at table h = blank_next at table (not_false (is_zeros (at (index_page table 0))) h)

some_formatted : (at : Images) (table : ℕ) → 0 < index_next at table → is_formatted at table ≡ true
some_formatted at table some = not_by (is_zeros (at (index_page table 0))) (λ z. let none = blank_next at table z in omega (arith, none, some))

-- ---- all nodes, where the pages are right by themselves

-- a record changes the last one
last_changed : LeavesOthers → slice_index zeros 4 ≡ 0 → (records : List LogRecord) (table : ℕ) → AreIndexPages (images_of records) table → index_next (images_of records) table - 1 ≤ last_in_records (index_set table) 0 records
last_changed k z records table p =
    let last : ℕ = index_next (images_of records) table - 1 in
    let from = p.header.next_from in
    elim (cases_lt (last_in_records (index_set table) 0 records) last) as (λ _. last ≤ last_in_records (index_set table) 0 records) [
      | inl lt ↦ absurd (inside_made (images_of records) table last p (record { from = omega (arith, from); to = omega (arith, from) }) (ap kind_in (never_changed k (index_set table) last records lt) ∙ byte_kind zeros z))
      | inr le ↦ le
    ]

pub all_nodes : LeavesOthers → slice_index zeros 4 ≡ 0 → (records : List LogRecord) (table : ℕ) → AreIndexPages (images_of records) table
    → nodes_in (images_of records) records table ≡ nodes_from (images_of records) table 1 (index_next (images_of records) table - 1)
all_nodes k z records table p =
    let le = last_changed k z records table p in
    let least : min (index_next (images_of records) table - 1) (last_in_records (index_set table) 0 records) ≡ index_next (images_of records) table - 1 = omega (arith, le) in
    ap (nodes_from (images_of records) table 1) least

-- ---- slots

no_member : (x : Given) → Contains [] x → ⊥
no_member x (k, lt, same) = absurd (omega arith)

no_key : (at : Images) (table : ℕ) (given : List Given) → AreGiven at table given → given ≡ [] → HasNoKey at table
no_key at table given g e key place h = no_member (record { key = key; place = place }) (subst (λ (gs : List Given). Contains gs (record { key = key; place = place })) e ((g key place).0 h))

no_members : (given : List Given) → ((x : Given) → Contains given x → ⊥) → given ≡ []
no_members [] h = refl
no_members (x ∷ xs) h = absurd (h x (0, omega arith, refl))

none_given : (at : Images) (table : ℕ) (given : List Given) → AreGiven at table given → HasNoKey at table → given ≡ []
none_given at table given g none = no_members given (λ x c. none x.key x.place ((g x.key x.place).1 c))

-- ---- the tests of a page

pub is_node : (f : Bool) (next : ℕ) (id : PageId) (page : List ℕ) → NodeStands f next id page → f ≡ true → 1 ≤ id.number → id.number < next → IsNodePage id page
is_node true next id page s e from to = s.node from to
is_node false next id page s e from to = absurd cc

told : (tree : IndexTree) (table : ℕ) (id : PageId) (page : List ℕ) (p : Bool) → NodeStands tree.formatted tree.next id page → tree.formatted ≡ true → 1 ≤ id.number → id.number < tree.next → p ≡ node_passes tree table id.number page
    → IsTrue p ↔ Passes tree table id page
told tree table id page p s f from to h = (
  λ t. record { by_itself = s; among = λ formatted one next. sym h ∙ t; formatted = λ one un. absurd (cc (f, un)) },
  λ all. h ∙ all.among f from to,
)

pub node_told : {E : Type 0} (tree : IndexTree) (table : ℕ) (id : PageId) (page : List ℕ) (result : Result Bool E) → NodeStands tree.formatted tree.next id page → tree.formatted ≡ true → 1 ≤ id.number → id.number < tree.next
    → IfOk result (λ p. p ≡ node_passes tree table id.number page) → IfOk result (λ p. IsTrue p ↔ Passes tree table id page)
node_told tree table id page (Ok p) s f from to h = told tree table id page p s f from to h
node_told tree table id page (Err e) s f from to h = tt

same_test : (table : ℕ) (given list : List Given) (places : Places) (page : List ℕ) → list ≡ given → places ≡ places_from table empty given → leaf_stands places table list page ≡ Test table given page
same_test table given list places page l p = ap (λ (gs : List Given). leaf_stands places table gs page) l ∙ ap (λ (m : Places). leaf_stands m table given page) p

abbrev page_in : Images → ℕ → ℕ → List ℕ
page_in at table n = at (index_page table n)

abbrev Linked : Images → ℕ → List Node → ℕ → Bool
Linked at table nodes n = is_linked table nodes n (page_in at table n)

abbrev Leaf : Images → ℕ → IndexTree → ℕ → Bool
Leaf at table tree n = leaf_stands tree.places table tree.given.items (page_in at table n)

node_right : (at : Images) (records : List LogRecord) (table : ℕ) (given : List Given) (tree : IndexTree) → IsTreeOf at records table given tree → AreGiven at table given → (n : ℕ) → node_passes tree table n (page_in at table n) ≡ true
    → IsRightNode at records table n
node_right at records table given tree t g n h =
    let page : List ℕ = page_in at table n in
    record {
      linked = subst (λ (nodes : List Node). Linked at table nodes n ≡ true) t.nodes_are (and_left (Linked at table tree.nodes.items n) (Leaf at table tree n) h);
      leaf = test_right at table given page g (sym (same_test table given tree.given.items tree.places page t.given_are t.places_are) ∙ and_right (Linked at table tree.nodes.items n) (Leaf at table tree n) h);
    }

right_node : (at : Images) (records : List LogRecord) (table : ℕ) (given : List Given) (tree : IndexTree) → IsTreeOf at records table given tree → AreGiven at table given → (n : ℕ) → IsNodePage (index_page table n) (page_in at table n)
    → IsRightNode at records table n → node_passes tree table n (page_in at table n) ≡ true
right_node at records table given tree t g n node r =
    let page : List ℕ = page_in at table n in
    and_both (Linked at table tree.nodes.items n) (Leaf at table tree n)
    (subst (λ (nodes : List Node). Linked at table nodes n ≡ true) (sym t.nodes_are) r.linked)
    (same_test table given tree.given.items tree.places page t.given_are t.places_are ∙ right_test at table given page g node.node r.leaf)

pub right : (at : Images) (records : List LogRecord) (table : ℕ) (given : List Given) (tree : IndexTree) → IsTreeOf at records table given tree → AreGiven at table given → (n : ℕ) → Of (Passes tree table) (index_page table) at n
    → IsRightIndexPage at records table n
right at records table given tree t g n h =
    let next = t.next_is in
    record {
      by_itself = subst (λ (m : ℕ). NodeStandsAt at table (is_formatted at table) m n) t.next_is (subst (λ (b : Bool). NodeStandsAt at table b tree.next n) t.formatted_is h.by_itself);
      among = λ from to. node_right at records table given tree t g n (h.among (t.formatted_is ∙ some_formatted at table (omega (arith, to))) from (omega (arith, next, to)));
      formatted = λ one un. no_key at table given g (sym t.given_are ∙ h.formatted one (t.formatted_is ∙ un));
    }

pub tests : (at : Images) (records : List LogRecord) (table : ℕ) (given : List Given) (tree : IndexTree) → IsTreeOf at records table given tree → AreGiven at table given → (n : ℕ) → IsRightIndexPage at records table n
    → Of (Passes tree table) (index_page table) at n
tests at records table given tree t g n h =
    let next = t.next_is in
    let stands : NodeStandsAt at table tree.formatted tree.next n =
    subst (λ (m : ℕ). NodeStandsAt at table tree.formatted m n) (sym t.next_is) (subst (λ (b : Bool). NodeStandsAt at table b (index_next at table) n) (sym t.formatted_is) h.by_itself)
    in
    record {
      by_itself = stands;
      among = λ formatted from to.
          right_node at records table given tree t g n (is_node tree.formatted tree.next (index_page table n) (page_in at table n) stands formatted from to) (h.among from (omega (arith, next, to)));
      formatted = λ one un. t.given_are ∙ none_given at table given g (h.formatted one (sym t.formatted_is ∙ un));
    }

pub first_wrong : (at : Images) (records : List LogRecord) (table : ℕ) (given : List Given) (tree : IndexTree) (id : PageId) → IsTreeOf at records table given tree → AreGiven at table given
    → IsFirstWrong (index_page table) (Of (Passes tree table) (index_page table) at) id → IsFirstWrong (index_page table) (IsRightIndexPage at records table) id
first_wrong at records table given tree id t g f =
    first_by (index_page table) (Of (Passes tree table) (index_page table) at) (IsRightIndexPage at records table) id (right at records table given tree t g) (tests at records table given tree t g) f

-- ---- all pages

last_from : (next : ℕ) → next ≤ last_node next + 1
last_from next = grind (arith, nat_tests)

last_some : (next : ℕ) → 1 ≤ last_node next
last_some next = grind (arith, nat_tests)

-- all behind the end are zeros
pub all_right : (at : Images) (records : List LogRecord) (table end : ℕ) (given : List Given) (tree : IndexTree) → IsTreeOf at records table given tree → AreGiven at table given → last_node tree.next < end
    → ((f : Bool) (n : ℕ) → end ≤ n → NodeStandsAt at table f tree.next n) → ((n : ℕ) → n < end → Of (Passes tree table) (index_page table) at n) → (n : ℕ) → IsRightIndexPage at records table n
all_right at records table end given tree t g past rest h n =
    let from = last_from tree.next in
    let some = last_some tree.next in
    elim (cases_lt n end) as (λ _. IsRightIndexPage at records table n) [
      | inl less ↦ right at records table given tree t g n (h n less)
      | inr up ↦ right at records table given tree t g n (record {
        by_itself = rest tree.formatted n up;
        among = λ formatted one to. absurd (omega (arith, to, up, past, from));
        formatted = λ one un. absurd (omega (arith, one, up, past, some));
      })
    ]
