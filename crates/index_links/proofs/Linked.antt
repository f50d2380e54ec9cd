-- The tests of nodes and entries, and the index with which the machine opens.
use Rattle.std.proofs.Common.{◌≡◌, ◌≢◌, ℕ, ◌+◌, ◌<◌, ◌≤◌, Bool, true, false, not, ◌&&◌, ◌||◌, List, Option, Some, None, is_some, refl, sym, ap, subst, ◌∙◌, arith, inl, inr}
use Rattle.std.specs.Prelude.{◌==◌, nat_lt, if◌then◌else◌, Contains, slice_index}
use Rattle.std.specs.List.{list_all}
use Rattle.std.specs.FinMap.{empty}
use Rattle.std.proofs.lemmas.Bool.{cases_eq}
use Rattle.std.proofs.lemmas.Bool.Decides.{nat_tests}
use Rattle.ds_base.specs.Pages.{index_page}
use Rattle.ds_model.specs.declared.log.LogRecord.{LogRecord}
use Rattle.index_leaf.specs.declared.layout.Entry.{Entry}
use Rattle.index_leaf.specs.Entries.{low_of, high_of, right_field, entries_of}
use Rattle.index_leaf.specs.Search.{is_branch, is_beyond, find}
use Rattle.index_protocol.specs.Index.{Kind, Unmade, Leaf, Branch, Link, beyond}
use Rattle.index_protocol.specs.Opening.{IsSound}
use Rattle.page_images.specs.Images.{Images, zeros}
use Rattle.page_chain.specs.Chains.{images_of, LeavesOthers}
use Rattle.sound_disk.specs.Indexes.{AreIndexPages}
use Rattle.sound_disk.specs.Index_views.{kind_in, link_to, link_in, leads, entry_of, changes_by, changes_in, index_of}
use Rattle.table_pages.proofs.Booleans.{and_left, and_right, and_both, equal, lt_of, of_lt}
use Rattle.table_pages.proofs.Nodes.{each_passes, all_pass}
use Rattle.index_links.specs.declared.nodes.Node.{Node}
use Rattle.index_links.specs.Nodes.{node_of}
use Rattle.index_links.specs.Links.{node_at, is_at, begins, goes_on, leads_on, has_right, rights_from, reached_in, node_stands, leads_down, starts, page_stands}
use Rattle.index_links.proofs.Chains.{IsLinked, LeftOf, left_of}
use Rattle.index_links.proofs.Kinds_in.{InIndex, named, named_made, branch_is, leaf_is, made_inside, inside_named, inside_made}
use Rattle.index_links.proofs.Found.{found, find_it, starts_found, found_starts, led, led_any, none_led, no_lead}
use Rattle.index_links.proofs.Nodes_in.{nodes_of, IsThere, there, is_there, kind_there, there_kind, got_in, got_is, get_in}
use Rattle.index_links.proofs.Rights.{reached_left, left_reached}
use Rattle.index_links.proofs.Untouched.{last_unmade, last_made}

abbrev page_of : Images → ℕ → ℕ → List ℕ
page_of at table n = at (index_page table n)

abbrev reached_at : Images → ℕ → ℕ → Bool
reached_at at table n = reached_in (rights_from table empty (nodes_of at table)) table n

-- all tests of the index
pub record Stands (at : Images) (table : ℕ) : Type 0 where
  pub nodes : (n : ℕ) → InIndex at table n → node_stands (nodes_of at table) (reached_at at table n) n (node_of (at (index_page table n))) ≡ true
  pub pages : (n : ℕ) → InIndex at table n → page_stands (nodes_of at table) (at (index_page table n)) ≡ true

-- ---- tests

differ : (a b : ℕ) → a ≢ b → (a == b) ≡ false
differ a b h = grind (arith, nat_tests)

not_true : (b : Bool) → not b ≡ true → b ≡ false
not_true true h = absurd cc
not_true false h = refl

true_not : (b : Bool) → b ≡ false → not b ≡ true
true_not true h = absurd cc
true_not false h = refl

not_both : (b : Bool) → b ≡ true → b ≡ false → ⊥
not_both true t f = absurd cc
not_both false t f = absurd cc

or_second : (a b : Bool) → (a || b) ≡ true → a ≡ false → b ≡ true
or_second true b h f = absurd cc
or_second false b h f = h

or_either : (a b : Bool) → (a ≡ false → b ≡ true) → (a || b) ≡ true
or_either true b h = refl
or_either false b h = h refl

some_of : (o : Option ℕ) → is_some o ≡ true → (h : ℕ) × (o ≡ Some h)
some_of None h = absurd cc
some_of (Some x) h = (x, refl)

begins_test : ℕ → Bool → Bool → Node → Bool
begins_test n a b node =
    if a then node.is_branch && (node.low == 0)
    else if b then not node.is_branch && (node.low == 0)
    else nat_lt 0 node.low

begins_low : (n : ℕ) (node : Node) → n ≢ 1 → n ≢ 2 → begins n node ≡ true → 0 < node.low
unfolding begins_test
begins_low n node a b h =
    let one : begins_test n false (n == 2) node ≡ true = ap (λ (x : Bool). begins_test n x (n == 2) node) (sym (differ n 1 a)) ∙ h in
    lt_of 0 node.low (ap (λ (x : Bool). begins_test n false x node) (sym (differ n 2 b)) ∙ one)

begins_first : (n : ℕ) (node : Node) → n ≡ 1 → begins n node ≡ true → (node.is_branch ≡ true) × (node.low ≡ 0)
begins_first n node e h =
    let t : begins 1 node ≡ true = ap (λ (m : ℕ). begins m node) (sym e) ∙ h in
    (and_left node.is_branch (node.low == 0) t, equal node.low 0 (and_right node.is_branch (node.low == 0) t))

begins_second : (n : ℕ) (node : Node) → n ≡ 2 → begins n node ≡ true → (node.is_branch ≡ false) × (node.low ≡ 0)
begins_second n node e h =
    let t : begins 2 node ≡ true = ap (λ (m : ℕ). begins m node) (sym e) ∙ h in
    (not_true node.is_branch (and_left (not node.is_branch) (node.low == 0) t), equal node.low 0 (and_right (not node.is_branch) (node.low == 0) t))

begins_sound : (n : ℕ) (node : Node) → (n ≡ 1 → (node.is_branch ≡ true) × (node.low ≡ 0)) → (n ≡ 2 → (node.is_branch ≡ false) × (node.low ≡ 0)) → (n ≢ 1 → n ≢ 2 → 0 < node.low) → begins n node ≡ true
unfolding begins_test
begins_sound n node f g h =
    elim (cases_eq n 1) as (λ _. begins n node ≡ true) [
      | inl e ↦ let t = f e in ap (λ (m : ℕ). begins m node) e ∙ and_both node.is_branch (node.low == 0) t.0 (ap (λ (x : ℕ). x == 0) t.1)
      | inr a ↦ elim (cases_eq n 2) as (λ _. begins n node ≡ true) [
        | inl e ↦ let t = g e in ap (λ (m : ℕ). begins m node) e ∙ and_both (not node.is_branch) (node.low == 0) (true_not node.is_branch t.0) (ap (λ (x : ℕ). x == 0) t.1)
        | inr b ↦
            ap (λ (x : Bool). begins_test n x (n == 2) node) (differ n 1 a)
            ∙ ap (λ (x : Bool). begins_test n false x node) (differ n 2 b)
            ∙ of_lt 0 node.low (h a b)
      ]
    ]

link_same : (a b : Link) → Some a ≡ Some b → a ≡ b
link_same a b e = cc

record IsLinkOf (o : Option ℕ) (right : ℕ) (l : Link) : Type 0 where
  high : o ≡ Some l.high
  right_is : right ≡ l.right

link_some : (o : Option ℕ) (right : ℕ) (l : Link) → link_to right o ≡ Some l → IsLinkOf o right l
link_some None right l h = absurd cc
link_some (Some x) right l h =
    let e = link_same (record { high = x; right = right }) l h in
    record { high = ap (λ (k : Link). Some k.high) e; right_is = ap (λ (k : Link). k.right) e }

beyond_link : (o : Option ℕ) (right k : ℕ) → is_beyond o k ≡ false → beyond (link_to right o) k ≡ false
unfolding beyond
beyond_link None right k h = refl
beyond_link (Some x) right k h = h

-- ---- what the tests of a page say

begins_at : (at : Images) (table n : ℕ) → Stands at table → InIndex at table n → begins n (node_of (page_of at table n)) ≡ true
begins_at at table n s i =
    let node : Node = node_of (page_of at table n) in
    and_left (begins n node) (leads_on (nodes_of at table) node && (node.is_branch || ((n == 2) || reached_at at table n))) (s.nodes n i)

leads_at : (at : Images) (table n : ℕ) → Stands at table → InIndex at table n → leads_on (nodes_of at table) (node_of (page_of at table n)) ≡ true
leads_at at table n s i =
    let node : Node = node_of (page_of at table n) in
    and_left (leads_on (nodes_of at table) node) (node.is_branch || ((n == 2) || reached_at at table n))
    (and_right (begins n node) (leads_on (nodes_of at table) node && (node.is_branch || ((n == 2) || reached_at at table n))) (s.nodes n i))

reached_of : (at : Images) (table n : ℕ) → Stands at table → InIndex at table n → is_branch (page_of at table n) ≡ false → n ≢ 2 → reached_at at table n ≡ true
reached_of at table n s i leaf differs =
    let node : Node = node_of (page_of at table n) in
    or_second (n == 2) (reached_at at table n)
    (or_second node.is_branch ((n == 2) || reached_at at table n)
    (and_right (leads_on (nodes_of at table) node) (node.is_branch || ((n == 2) || reached_at at table n))
    (and_right (begins n node) (leads_on (nodes_of at table) node && (node.is_branch || ((n == 2) || reached_at at table n))) (s.nodes n i)))
    leaf)
    (differ n 2 differs)

record LinkStands (at : Images) (table n : ℕ) (l : Link) : Type 0 where
  up : low_of (page_of at table n) < l.high
  leads_to : IsThere at table l.right (is_branch (page_of at table n)) l.high

link_stands : (at : Images) (table n : ℕ) (l : Link) → Stands at table → InIndex at table n → link_in (page_of at table n) ≡ Some l → LinkStands at table n l
link_stands at table n l s i is =
    let page : List ℕ = page_of at table n in
    let f = link_some (high_of page) (right_field page) l is in
    let t : nat_lt (low_of page) l.high && is_at (node_at (nodes_of at table) (right_field page)) (is_branch page) l.high ≡ true = ap (goes_on (nodes_of at table) (node_of page)) (sym f.high) ∙ leads_at at table n s i in
    record {
      up = lt_of (low_of page) l.high (and_left (nat_lt (low_of page) l.high) (is_at (node_at (nodes_of at table) (right_field page)) (is_branch page) l.high) t);
      leads_to = subst (λ (r : ℕ). IsThere at table r (is_branch page) l.high) f.right_is
          (there at table (right_field page) (is_branch page) l.high (and_right (nat_lt (low_of page) l.high) (is_at (node_at (nodes_of at table) (right_field page)) (is_branch page) l.high) t));
    }

entries_at : (at : Images) (table n : ℕ) → Stands at table → InIndex at table n → is_branch (page_of at table n) ≡ true
    → starts (low_of (page_of at table n)) (entries_of (page_of at table n)) && list_all (leads_down (nodes_of at table)) (entries_of (page_of at table n)) ≡ true
entries_at at table n s i b =
    let page : List ℕ = page_of at table n in
    or_second (not (is_branch page)) (starts (low_of page) (entries_of page) && list_all (leads_down (nodes_of at table)) (entries_of page)) (s.pages n i) (ap not b)

record ChildStands (at : Images) (table k c : ℕ) : Type 0 where
  leads_to : IsThere at table c false k

child_stands : (at : Images) (table n k c : ℕ) → Stands at table → InIndex at table n → kind_in (page_of at table n) ≡ Branch → entry_of (page_of at table n) k ≡ Some c → ChildStands at table k c
child_stands at table n k c s i b h =
    let page : List ℕ = page_of at table n in
    let es : List Entry = entries_of page in
    let by = led es (kind_in page) k c b h in
    let f = found es k by.entry by.finds in
    let all = and_right (starts (low_of page) es) (list_all (leads_down (nodes_of at table)) es) (entries_at at table n s i (branch_is page b)) in
    let t = each_passes (leads_down (nodes_of at table)) es all by.entry f.among in
    record {
      leads_to = subst (λ (x : ℕ). IsThere at table c false x) f.key_is
          (subst (λ (x : ℕ). IsThere at table x false by.entry.key) by.page_is (there at table by.entry.place.page false by.entry.key t));
    }

left_at : (at : Images) (records : List LogRecord) (table : ℕ) (home : ℕ → ℕ) (n : ℕ) → AreIndexPages at table → Stands at table → InIndex at table n → is_branch (page_of at table n) ≡ false → n ≢ 2
    → LeftOf (index_of at records table home) n
left_at at records table home n p s i leaf differs =
    let l = reached_left table n (nodes_of at table) (reached_of at table n s i leaf differs) in
    let m : ℕ = 1 + l.i in
    let page : List ℕ = page_of at table m in
    let inside = got_in at table l.i l.node l.got in
    let is = got_is at table l.i l.node l.got in
    let has : has_right (node_of page) ≡ true = ap has_right (sym is) ∙ l.has in
    let right : right_field page ≡ n = ap (λ (x : Node). x.right) (sym is) ∙ l.right in
    let kind : is_branch page ≡ false = not_true (is_branch page) (and_left (not (is_branch page)) (is_some (high_of page)) has) in
    let high = some_of (high_of page) (and_right (not (is_branch page)) (is_some (high_of page)) has) in
    record {
      at = m;
      high = high.0;
      leaf = inside_named at table m p inside ∙ ap named kind;
      link = ap (link_to (right_field page)) high.1 ∙ ap (λ (r : ℕ). Some (record { high = high.0; right = r })) right;
    }

-- ---- the index is linked

pub linked_of : LeavesOthers → slice_index zeros 4 ≡ 0 → (records : List LogRecord) (table : ℕ) (home : ℕ → ℕ) → AreIndexPages (images_of records) table → Stands (images_of records) table
    → IsLinked (index_of (images_of records) records table home)
linked_of k z records table home p s =
    let at : Images = images_of records in
    let some = p.header.next_from in
    let one : InIndex at table 1 = record { from = omega arith; to = omega (arith, some) } in
    let two : InIndex at table 2 = record { from = omega arith; to = omega (arith, some) } in
    let first = begins_first 1 (node_of (page_of at table 1)) refl (begins_at at table 1 s one) in
    let second = begins_second 2 (node_of (page_of at table 2)) refl (begins_at at table 2 s two) in
    record {
      root_kind = inside_named at table 1 p one ∙ ap named first.0;
      root_low = first.1;
      leaf_kind = inside_named at table 2 p two ∙ ap named second.0;
      leaf_low = second.1;
      unmade = λ n un. last_unmade (kind_in (page_of at table n)) (changes_in records table n) un;
      made = λ n made. last_made k z records table n made;
      above_root = λ n b differs.
          let i = made_inside at table n p (named_made true (kind_in (page_of at table n)) b) in
          let t = begins_at at table n s i in
          elim (cases_eq n 2) as (λ _. 0 < low_of (page_of at table n)) [
            | inl e ↦ let r = begins_second n (node_of (page_of at table n)) e t in absurd (not_both (is_branch (page_of at table n)) (branch_is (page_of at table n) b) r.0)
            | inr other ↦ begins_low n (node_of (page_of at table n)) differs other t
          ];
      above_leaf = λ n b differs.
          let i = made_inside at table n p (named_made false (kind_in (page_of at table n)) b) in
          let t = begins_at at table n s i in
          elim (cases_eq n 1) as (λ _. 0 < low_of (page_of at table n)) [
            | inl e ↦ let r = begins_first n (node_of (page_of at table n)) e t in absurd (not_both (is_branch (page_of at table n)) r.0 (leaf_is (page_of at table n) b))
            | inr other ↦ begins_low n (node_of (page_of at table n)) other differs t
          ];
      above = λ n l made is. (link_stands at table n l s (inside n made) is).up;
      right_low = λ n l made is. (link_stands at table n l s (inside n made) is).leads_to.low_is;
      right_kind = λ n l made is.
          kind_there at table l.right (is_branch (page_of at table n)) l.high p (link_stands at table n l s (inside n made) is).leads_to ∙ sym (inside_named at table n p (inside n made));
      child = λ n key c b made is. kind_there at table c false key p (child_stands at table n key c s (inside n made) b is).leads_to;
      child_low = λ n key c b made is. (child_stands at table n key c s (inside n made) b is).leads_to.low_is;
      first = λ n b made none.
          let page : List ℕ = page_of at table n in
          let t = and_left (starts (low_of page) (entries_of page)) (list_all (leads_down (nodes_of at table)) (entries_of page)) (entries_at at table n s (inside n made) (branch_is page b)) in
          starts_found (low_of page) (entries_of page) t (none_led (kind_in page) (find (entries_of page) (low_of page)) none);
      from_low = λ n key x b is.
          let page : List ℕ = page_of at table n in
          let e = led_any (entries_of page) (kind_in page) key x is in
          let f = found (entries_of page) key e.0 e.1 in
          let node = (p.pages n (leaf_in n b).from (leaf_in n b).to).node in
          subst (λ (m : ℕ). low_of page ≤ m) f.key_is (node.from_low e.0 f.among);
      in_high = λ n key x b is.
          let page : List ℕ = page_of at table n in
          let e = led_any (entries_of page) (kind_in page) key x is in
          let f = found (entries_of page) key e.0 e.1 in
          let node = (p.pages n (leaf_in n b).from (leaf_in n b).to).node in
          beyond_link (high_of page) (right_field page) key (subst (λ (m : ℕ). is_beyond (high_of page) m ≡ false) f.key_is (node.below_high e.0 f.among));
      left = λ n b differs. left_at at records table home n p s (leaf_in n b) (leaf_is (page_of at table n) b) differs;
    }
  where
    leaf_in : (n : ℕ) → kind_in (page_of (images_of records) table n) ≡ Leaf → InIndex (images_of records) table n
    leaf_in n b = made_inside (images_of records) table n p (named_made false (kind_in (page_of (images_of records) table n)) b)

    unmade_none : (kind : Kind) (count : ℕ) → kind ≡ Unmade → 1 ≤ changes_by kind count → ⊥
    unmade_none kind count un made = let e = last_unmade kind count un in omega (arith, e, made)

    inside : (n : ℕ) → 1 ≤ changes_by (kind_in (page_of (images_of records) table n)) (changes_in records table n) → InIndex (images_of records) table n
    inside n made = made_inside (images_of records) table n p (λ un. unmade_none (kind_in (page_of (images_of records) table n)) (changes_in records table n) un made)

-- ---- and where the machine opens all tests hold

abbrev Opened : Images → List LogRecord → ℕ → (ℕ → ℕ) → Type 0
Opened at records table home = IsSound (index_of at records table home)

low_by : (at : Images) (records : List LogRecord) (table : ℕ) (home : ℕ → ℕ) (n : ℕ) (b : Bool) → Opened at records table home → kind_in (page_of at table n) ≡ named b → n ≢ 1 → n ≢ 2 → 0 < low_of (page_of at table n)
low_by at records table home n true s is one two = s.above_root n is one
low_by at records table home n false s is one two = s.above_leaf n is two

sound_begins : (at : Images) (records : List LogRecord) (table : ℕ) (home : ℕ → ℕ) (n : ℕ) → AreIndexPages at table → Opened at records table home → InIndex at table n → begins n (node_of (page_of at table n)) ≡ true
sound_begins at records table home n p s i =
    begins_sound n (node_of (page_of at table n))
    (λ e. (ap (λ (m : ℕ). is_branch (page_of at table m)) e ∙ branch_is (page_of at table 1) s.root_kind, ap (λ (m : ℕ). low_of (page_of at table m)) e ∙ s.root_low))
    (λ e. (ap (λ (m : ℕ). is_branch (page_of at table m)) e ∙ leaf_is (page_of at table 2) s.leaf_kind, ap (λ (m : ℕ). low_of (page_of at table m)) e ∙ s.leaf_low))
    (low_by at records table home n (is_branch (page_of at table n)) s (inside_named at table n p i))

sound_goes : (at : Images) (records : List LogRecord) (table : ℕ) (home : ℕ → ℕ) (n : ℕ) (o : Option ℕ) → AreIndexPages at table → Opened at records table home → InIndex at table n → high_of (page_of at table n) ≡ o
    → goes_on (nodes_of at table) (node_of (page_of at table n)) o ≡ true
sound_goes at records table home n None p s i e = refl
sound_goes at records table home n (Some x) p s i e =
    let page : List ℕ = page_of at table n in
    let l : Link = record { high = x; right = right_field page } in
    let is : link_in page ≡ Some l = ap (link_to (right_field page)) e in
    let made = s.made n (inside_made at table n p i) in
    let kind = s.right_kind n l made is ∙ inside_named at table n p i in
    and_both (nat_lt (low_of page) x) (is_at (node_at (nodes_of at table) (right_field page)) (is_branch page) x)
    (of_lt (low_of page) x (s.above n l made is))
    (is_there at table (right_field page) (is_branch page) x (there_kind at table (right_field page) (is_branch page) x p kind (s.right_low n l made is)))

sound_reached : (at : Images) (records : List LogRecord) (table : ℕ) (home : ℕ → ℕ) (n : ℕ) → AreIndexPages at table → Opened at records table home → kind_in (page_of at table n) ≡ Leaf → n ≢ 2 → reached_at at table n ≡ true
sound_reached at records table home n p s leaf differs =
    let l = left_of (index_of at records table home) n s leaf differs in
    let page : List ℕ = page_of at table l.at in
    let i = made_inside at table l.at p (named_made false (kind_in page) l.leaf) in
    let f = link_some (high_of page) (right_field page) (record { high = l.high; right = n }) l.link in
    let got = get_in at table l.at i in
    left_reached table n (nodes_of at table)
    (record {
      i = got.0;
      node = node_of page;
      got = got.1.1;
      has = and_both (not (is_branch page)) (is_some (high_of page)) (true_not (is_branch page) (leaf_is page l.leaf)) (ap is_some f.high);
      right = f.right_is;
    })

sound_nodes : (at : Images) (records : List LogRecord) (table : ℕ) (home : ℕ → ℕ) (n : ℕ) → AreIndexPages at table → Opened at records table home → InIndex at table n
    → node_stands (nodes_of at table) (reached_at at table n) n (node_of (page_of at table n)) ≡ true
sound_nodes at records table home n p s i =
    let node : Node = node_of (page_of at table n) in
    and_both (begins n node) (leads_on (nodes_of at table) node && (node.is_branch || ((n == 2) || reached_at at table n)))
    (sound_begins at records table home n p s i)
    (and_both (leads_on (nodes_of at table) node) (node.is_branch || ((n == 2) || reached_at at table n))
    (sound_goes at records table home n (high_of (page_of at table n)) p s i refl)
    (or_either node.is_branch ((n == 2) || reached_at at table n) (λ leaf.
    elim (cases_eq n 2) as (λ _. ((n == 2) || reached_at at table n) ≡ true) [
      | inl e ↦ ap (λ (m : ℕ). (m == 2) || reached_at at table n) e
      | inr differs ↦ or_either (n == 2) (reached_at at table n) (λ _. sound_reached at records table home n p s (inside_named at table n p i ∙ ap named leaf) differs)
    ])))

sound_down : (at : Images) (records : List LogRecord) (table : ℕ) (home : ℕ → ℕ) (n : ℕ) (e : Entry) → AreIndexPages at table → Opened at records table home → InIndex at table n → kind_in (page_of at table n) ≡ Branch
    → Contains (entries_of (page_of at table n)) e → leads_down (nodes_of at table) e ≡ true
sound_down at records table home n e p s i b c =
    let page : List ℕ = page_of at table n in
    let made = s.made n (inside_made at table n p i) in
    let node = (p.pages n i.from i.to).node in
    let is : entry_of page e.key ≡ Some e.place.page = ap (λ (k : Kind). leads k (find (entries_of page) e.key)) b ∙ ap (leads Branch) (find_it (entries_of page) e node.rising c) in
    is_there at table e.place.page false e.key (there_kind at table e.place.page false e.key p (s.child n e.key e.place.page b made is) (s.child_low n e.key e.place.page b made is))

sound_pages : (at : Images) (records : List LogRecord) (table : ℕ) (home : ℕ → ℕ) (n : ℕ) → AreIndexPages at table → Opened at records table home → InIndex at table n → page_stands (nodes_of at table) (page_of at table n) ≡ true
sound_pages at records table home n p s i =
    let page : List ℕ = page_of at table n in
    let es : List Entry = entries_of page in
    or_either (not (is_branch page)) (starts (low_of page) es && list_all (leads_down (nodes_of at table)) es) (λ branch.
    let b : kind_in page ≡ Branch = inside_named at table n p i ∙ ap named (not_false (is_branch page) branch) in
    let made = s.made n (inside_made at table n p i) in
    let node = (p.pages n i.from i.to).node in
    and_both (starts (low_of page) es) (list_all (leads_down (nodes_of at table)) es)
    (found_starts (low_of page) es node.rising node.from_low (λ none. s.first n b made (no_lead (kind_in page) (find es (low_of page)) none)))
    (all_pass (leads_down (nodes_of at table)) es (λ e c. sound_down at records table home n e p s i b c)))
  where
    not_false : (b : Bool) → not b ≡ false → b ≡ true
    not_false true h = refl
    not_false false h = absurd cc

pub stands_of : (at : Images) (records : List LogRecord) (table : ℕ) (home : ℕ → ℕ) → AreIndexPages at table → Opened at records table home → Stands at table
stands_of at records table home p s = record { nodes = λ n i. sound_nodes at records table home n p s i; pages = λ n i. sound_pages at records table home n p s i }
