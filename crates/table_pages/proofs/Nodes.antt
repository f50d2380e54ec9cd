-- The tests of branches and leaves.
use Rattle.std.proofs.Common.{◌≡◌, ◌⊎◌, ◌↔◌, ℕ, zero, suc, ◌+◌, ◌<◌, ◌≤◌, Bool, true, false, not, ◌&&◌, ◌||◌, List, [], ◌∷◌, ◌++◌, length, take, drop, slice_index, Option, Some, None, is_none, is_some, unwrap_or, refl, sym, ap, subst, ◌∙◌, arith, inl, inr}
use Rattle.std.specs.Prelude.{◌==◌, nat_le, nat_lt, slice_get, Contains, IsTrue}
use Rattle.std.specs.List.{list_all}
use Rattle.std.proofs.lemmas.List.{take_more, take_all}
use Rattle.std.proofs.lemmas.List.Folds.{list_all-append}
use Rattle.std.proofs.lemmas.Option.{slice_get_within, get_or_from_slice_get, slice_get-get_or}
use Rattle.ds_base.specs.declared.names.PageId.{PageId}
use Rattle.ds_base.specs.declared.names.Place.{Place}
use Rattle.page_format.specs.Fields.{page_size}
use Rattle.page_format.specs.Header.{is_zeros, header_of, entries_per_page}
use Rattle.page_format.specs.declared.header.PageKind.TheVariants as kind
use Rattle.index_leaf.specs.declared.layout.Entry.{Entry}
use Rattle.index_leaf.specs.Entries.{has_high_at, right_at, entry_width, first_entry_at, count_of, low_of, high_of, high_field, right_field, entries_from, entries_of, IsRising}
use Rattle.index_leaf.specs.Search.{is_beyond, pair_of}
use Rattle.index_leaf.specs.Changes.{entry_offset}
use Rattle.page_images.specs.Parts.{part}
use Rattle.sound_disk.specs.Layouts.{has_clean_header}
use Rattle.sound_disk.specs.Indexes.{IsBranchPage, IsLeafPage, HasCleanFields, IsNodePage}
use Rattle.table_pages.specs.Kinds.{has_kind, both_or_neither}
use Rattle.table_pages.specs.Nodes.{node_kind, entry_fits, entries_fit, links_fit, padding_fits, paddings_fit, clean_fits, node_fits}
use Rattle.table_pages.proofs.Booleans.{decide, and_left, and_right, and_both, equal, le_of, of_le, both_same, same_both, below, last_of}
use Rattle.table_pages.proofs.Kind_tests.{kind_is, kind_has, not_both}

-- ---- all of a list

abbrev Test : Type 0
Test = Entry → Bool

pub each_passes : (f : Test) (es : List Entry) → list_all f es ≡ true → (e : Entry) → Contains es e → f e ≡ true
each_passes f [] h e (k, lt, same) = absurd (omega arith)
each_passes f (x ∷ xs) h e (zero, lt, same) = subst (λ (y : Entry). f y ≡ true) same (and_left (f x) (list_all f xs) h)
each_passes f (x ∷ xs) h e (suc k, lt, same) = each_passes f xs (and_right (f x) (list_all f xs) h) e (k, omega arith, same)

later : (x : Entry) (xs : List Entry) (e : Entry) → Contains xs e → Contains (x ∷ xs) e
later x xs e (k, lt, same) = (suc k, omega arith, same)

pub all_pass : (f : Test) (es : List Entry) → ((e : Entry) → Contains es e → f e ≡ true) → list_all f es ≡ true
all_pass f [] h = refl
all_pass f (x ∷ xs) h = and_both (f x) (list_all f xs) (h x (zero, omega arith, refl)) (all_pass f xs (λ e c. h e (later x xs e c)))

-- ---- one entry after the other

abbrev fit_test : Bool → ℕ → Option ℕ → Test
fit_test is_branch low high = λ e. entry_fits is_branch low high e.key e.place

and_true : (a : Bool) → (a && true) ≡ a
and_true true = refl
and_true false = refl

all_more : (f : Test) (es : List Entry) (n : ℕ) (e : Entry) → slice_get es n ≡ Some e → list_all f (take n es) ≡ true → f e ≡ true → list_all f (take (n + 1) es) ≡ true
all_more f es n e h all t =
    ap (λ (xs : List Entry). list_all f xs) (take_more es n e (slice_get_within es n e h) ∙ ap (λ (x : Entry). take n es ++ x ∷ []) (get_or_from_slice_get es n e e h))
    ∙ list_all-append f (take n es) (e ∷ [])
    ∙ and_both (list_all f (take n es)) (f e && true) all (and_true (f e) ∙ t)

is_some_of : (o : Option Entry) (key : ℕ) (place : Place) → pair_of o ≡ Some (key, place) → (e : Entry) × (o ≡ Some e) × (e.key ≡ key) × (e.place ≡ place)
is_some_of None key place h = absurd cc
is_some_of (Some e) key place h = (e, refl, ap (λ (o : Option (ℕ × Place)). (unwrap_or o (key, place)).0) h, ap (λ (o : Option (ℕ × Place)). (unwrap_or o (key, place)).1) h)

pub fits_more : (is_branch : Bool) (low : ℕ) (high : Option ℕ) (es : List Entry) (n key : ℕ) (place : Place) → pair_of (slice_get es n) ≡ Some (key, place) → entries_fit is_branch low high (take n es) ≡ true
    → entry_fits is_branch low high key place ≡ true → entries_fit is_branch low high (take (n + 1) es) ≡ true
fits_more is_branch low high es n key place h all t =
    let got = is_some_of (slice_get es n) key place h in
    all_more (fit_test is_branch low high) es n got.0 got.1 all
    (ap (λ (k : ℕ). entry_fits is_branch low high k got.0.place) got.2 ∙ ap (λ (p : Place). entry_fits is_branch low high key p) got.3 ∙ t)

contained : (es : List Entry) (n : ℕ) (e : Entry) → slice_get es n ≡ Some e → Contains es e
contained es n e h = (n, slice_get_within es n e h, get_or_from_slice_get es n e e h)

pub misfit : (is_branch : Bool) (low : ℕ) (high : Option ℕ) (es : List Entry) (n key : ℕ) (place : Place) → pair_of (slice_get es n) ≡ Some (key, place)
    → entry_fits is_branch low high key place ≡ false → entries_fit is_branch low high es ≡ false
misfit is_branch low high es n key place h t =
    let got = is_some_of (slice_get es n) key place h in
    let f : entry_fits is_branch low high got.0.key got.0.place ≡ false =
    ap (λ (k : ℕ). entry_fits is_branch low high k got.0.place) got.2 ∙ ap (λ (p : Place). entry_fits is_branch low high key p) got.3 ∙ t in
    decide (entries_fit is_branch low high es) (entries_fit is_branch low high es ≡ false)
    (λ all. let is = each_passes (fit_test is_branch low high) es all got.0 (contained es n got.0 got.1) in absurd (cc (is, f)))
    (λ e. e)

none_at : (es : List Entry) (n : ℕ) → pair_of (slice_get es n) ≡ None → n < length es → ⊥
none_at [] n h lt = omega (arith, lt)
none_at (x ∷ xs) n h lt = absurd (cc (h, slice_get-get_or (x ∷ xs) n x lt))

length_from : (page : List ℕ) (offset n : ℕ) → length (entries_from page offset n) ≡ n
length_from page offset zero = refl
length_from page offset (suc n) = let ih = length_from page (offset + entry_width) n in omega (arith, ih)

pub all_taken : (is_branch : Bool) (low : ℕ) (high : Option ℕ) (page : List ℕ) (n : ℕ) → count_of page ≤ n → entries_fit is_branch low high (take n (entries_of page)) ≡ true
    → entries_fit is_branch low high (entries_of page) ≡ true
all_taken is_branch low high page n le h =
    let len = length_from page first_entry_at (count_of page) in
    subst (λ (es : List Entry). entries_fit is_branch low high es ≡ true) (take_all n (entries_of page) (omega (arith, len, le))) h

pub none_left : (page : List ℕ) (n : ℕ) → n < count_of page → pair_of (slice_get (entries_of page) n) ≡ None → ⊥
none_left page n lt h =
    let len = length_from page first_entry_at (count_of page) in
    none_at (entries_of page) n h (omega (arith, len, lt))

pub misfit_told : (is_branch : Bool) (low : ℕ) (high : Option ℕ) (page : List ℕ) (n key : ℕ) (place : Place) (r : Bool) → low ≡ low_of page → high ≡ high_of page
    → Some (key, place) ≡ pair_of (slice_get (entries_of page) n) → r ≡ entry_fits is_branch low high key place → r ≡ false → false ≡ entries_fit is_branch (low_of page) (high_of page) (entries_of page)
misfit_told is_branch low high page n key place r l h at e f =
    sym
    (ap (λ (k : ℕ). entries_fit is_branch k (high_of page) (entries_of page)) (sym l)
    ∙ ap (λ (o : Option ℕ). entries_fit is_branch low o (entries_of page)) (sym h)
    ∙ misfit is_branch low high (entries_of page) n key place (sym at) (sym e ∙ f))

pub more_told : (is_branch : Bool) (low : ℕ) (high : Option ℕ) (page : List ℕ) (n key : ℕ) (place : Place) (r : Bool) → Some (key, place) ≡ pair_of (slice_get (entries_of page) n)
    → r ≡ entry_fits is_branch low high key place → r ≡ true → entries_fit is_branch low high (take n (entries_of page)) ≡ true → entries_fit is_branch low high (take (n + 1) (entries_of page)) ≡ true
more_told is_branch low high page n key place r at e t all = fits_more is_branch low high (entries_of page) n key place (sym at) all (sym e ∙ t)

pub all_told : (is_branch : Bool) (low : ℕ) (high : Option ℕ) (page : List ℕ) (n : ℕ) → low ≡ low_of page → high ≡ high_of page → count_of page ≤ n → entries_fit is_branch low high (take n (entries_of page)) ≡ true
    → true ≡ entries_fit is_branch (low_of page) (high_of page) (entries_of page)
all_told is_branch low high page n l h le all =
    sym
    (ap (λ (k : ℕ). entries_fit is_branch k (high_of page) (entries_of page)) (sym l)
    ∙ ap (λ (o : Option ℕ). entries_fit is_branch low o (entries_of page)) (sym h)
    ∙ all_taken is_branch low high page n le all)

-- ---- what a right entry is

abbrev low_test : ℕ → ℕ → Bool
low_test low key = nat_le low key

key_from : (is_branch : Bool) (low : ℕ) (high : Option ℕ) (key : ℕ) (place : Place) → entry_fits is_branch low high key place ≡ true → low ≤ key
key_from is_branch low high key place h = le_of low key (and_left (nat_le low key) (not (is_beyond high key) && (not is_branch || (place.slot == 0))) h)

not_true : (b : Bool) → not b ≡ true → b ≡ false
not_true true h = absurd cc
not_true false h = refl

key_below : (is_branch : Bool) (low : ℕ) (high : Option ℕ) (key : ℕ) (place : Place) → entry_fits is_branch low high key place ≡ true → is_beyond high key ≡ false
key_below is_branch low high key place h =
    not_true (is_beyond high key)
    (and_left (not (is_beyond high key)) (not is_branch || (place.slot == 0)) (and_right (nat_le low key) (not (is_beyond high key) && (not is_branch || (place.slot == 0))) h))

slot_of : (is_branch : Bool) (low : ℕ) (high : Option ℕ) (key : ℕ) (place : Place) → entry_fits is_branch low high key place ≡ true → is_branch ≡ true → place.slot ≡ 0
slot_of true low high key place h b =
    equal place.slot 0 (and_right (not (is_beyond high key)) (place.slot == 0) (and_right (nat_le low key) (not (is_beyond high key) && (place.slot == 0)) h))
slot_of false low high key place h b = absurd cc

fits_entry : (is_branch : Bool) (low : ℕ) (high : Option ℕ) (key : ℕ) (place : Place) → low ≤ key → is_beyond high key ≡ false → (is_branch ≡ true → place.slot ≡ 0) → entry_fits is_branch low high key place ≡ true
fits_entry true low high key place le below slot =
    and_both (nat_le low key) _ (of_le low key le)
    (and_both (not (is_beyond high key)) _ (ap not below) (ap (λ (n : ℕ). n == 0) (slot refl)))
fits_entry false low high key place le below slot =
    and_both (nat_le low key) _ (of_le low key le)
    (and_both (not (is_beyond high key)) true (ap not below) refl)

-- ---- the fields between

paddings_right : (page : List ℕ) (count : ℕ) → paddings_fit page count ≡ true → (n : ℕ) → n < count → padding_fits page n ≡ true
paddings_right page zero h n lt = absurd (omega (arith, lt))
paddings_right page (suc m) h n lt =
    decide (nat_lt n m) (padding_fits page n ≡ true)
    (λ e. paddings_right page m (and_left (paddings_fit page m) (padding_fits page m) h) n (below n m e))
    (λ e. subst (λ (k : ℕ). padding_fits page k ≡ true) (sym (last_of n m lt e)) (and_right (paddings_fit page m) (padding_fits page m) h))

right_paddings : (page : List ℕ) (count : ℕ) → ((n : ℕ) → n < count → padding_fits page n ≡ true) → paddings_fit page count ≡ true
right_paddings page zero h = refl
right_paddings page (suc m) h = and_both (paddings_fit page m) (padding_fits page m) (right_paddings page m (λ n lt. h n (omega (arith, lt)))) (h m (omega arith))

pub paddings_misfit : (page : List ℕ) (count n : ℕ) → n < count → padding_fits page n ≡ false → false ≡ paddings_fit page count
paddings_misfit page count n lt e =
    decide (paddings_fit page count) (false ≡ paddings_fit page count)
    (λ t. let is = paddings_right page count t n lt in absurd (cc (is, e)))
    (λ f. sym f)

abbrev mark_rest : List ℕ → Bool
mark_rest page = is_zeros (part (has_high_at + 1) 3 page)

abbrev right_rest : List ℕ → Bool
right_rest page = is_zeros (part (right_at + 4) 8 page)

abbrev page_rest : List ℕ → Bool
page_rest page = is_zeros (drop (entry_offset (count_of page)) page)

clean_right : (page : List ℕ) → clean_fits page ≡ true → HasCleanFields page
clean_right page h =
    let a = and_right (mark_rest page) (right_rest page && (paddings_fit page (count_of page) && page_rest page)) h in
    let b = and_right (right_rest page) (paddings_fit page (count_of page) && page_rest page) a in
    record {
      behind_mark = and_left (mark_rest page) (right_rest page && (paddings_fit page (count_of page) && page_rest page)) h;
      behind_right = and_left (right_rest page) (paddings_fit page (count_of page) && page_rest page) a;
      entries = paddings_right page (count_of page) (and_left (paddings_fit page (count_of page)) (page_rest page) b);
      rest = and_right (paddings_fit page (count_of page)) (page_rest page) b;
    }

right_clean : (page : List ℕ) → HasCleanFields page → clean_fits page ≡ true
right_clean page h =
    and_both (mark_rest page) _ h.behind_mark
    (and_both (right_rest page) _ h.behind_right
    (and_both (paddings_fit page (count_of page)) (page_rest page) (right_paddings page (count_of page) h.entries) h.rest))

-- ---- the links

no_high : (o : Option ℕ) (n : ℕ) → (is_some o || (n == 0)) ≡ true → is_none o ≡ true → n ≡ 0
no_high None n h e = equal n 0 h
no_high (Some k) n h e = absurd cc

high_or : (o : Option ℕ) (n : ℕ) → (is_none o ≡ true → n ≡ 0) → (is_some o || (n == 0)) ≡ true
high_or None n h = ap (λ (k : ℕ). k == 0) (h refl)
high_or (Some k) n h = refl

abbrev mark_test : List ℕ → Bool
mark_test page = nat_le (slice_index page has_high_at) 1

abbrev high_test : List ℕ → Bool
high_test page = is_some (high_of page) || (high_field page == 0)

abbrev right_test : List ℕ → Bool
right_test page = both_or_neither (right_field page == 0) (is_none (high_of page))

-- ---- the kinds

either : (a b : Bool) → (a || b) ≡ true → (a ≡ true) ⊎ (b ≡ true)
either true b h = inl refl
either false b h = inr h

or_left : (a b : Bool) → a ≡ true → (a || b) ≡ true
or_left true b h = refl
or_left false b h = absurd cc

or_right : (a b : Bool) → b ≡ true → (a || b) ≡ true
or_right true b h = refl
or_right false b h = h

abbrev branch_test : PageId → List ℕ → Bool
branch_test id page = has_kind kind.Branch (header_of page id)

abbrev leaf_test : PageId → List ℕ → Bool
leaf_test id page = has_kind kind.Leaf (header_of page id)

abbrev all_entries : PageId → List ℕ → Bool
all_entries id page = entries_fit (branch_test id page) (low_of page) (high_of page) (entries_of page)

abbrev AnyKind : PageId → List ℕ → Type 0
AnyKind id page = IsBranchPage id page ⊎ IsLeafPage id page

fit_of : (id : PageId) (page : List ℕ) → all_entries id page ≡ true → (e : Entry) → Contains (entries_of page) e → entry_fits (branch_test id page) (low_of page) (high_of page) e.key e.place ≡ true
fit_of id page h e c = each_passes (fit_test (branch_test id page) (low_of page) (high_of page)) (entries_of page) h e c

kind_right : (id : PageId) (page : List ℕ) → all_entries id page ≡ true → (branch_test id page ≡ true) ⊎ (leaf_test id page ≡ true) → AnyKind id page
kind_right id page h (inl b) = inl (kind_is kind.Branch (header_of page id) b, λ e c. slot_of (branch_test id page) (low_of page) (high_of page) e.key e.place (fit_of id page h e c) b)
kind_right id page h (inr l) = inr (kind_is kind.Leaf (header_of page id) l)

kind_fits : (id : PageId) (page : List ℕ) → AnyKind id page → node_kind id page ≡ true
kind_fits id page (inl b) = or_left (branch_test id page) (leaf_test id page) (kind_has kind.Branch (header_of page id) b.0)
kind_fits id page (inr l) = or_right (branch_test id page) (leaf_test id page) (kind_has kind.Leaf (header_of page id) l)

slot_fits : (id : PageId) (page : List ℕ) → AnyKind id page → (e : Entry) → Contains (entries_of page) e → branch_test id page ≡ true → e.place.slot ≡ 0
slot_fits id page (inl b) e c t = b.1 e c
slot_fits id page (inr l) e c t = absurd (not_both (header_of page id) t (kind_has kind.Leaf (header_of page id) l))

-- ---- the page

node_right : (id : PageId) (page : List ℕ) → length page ≡ page_size → count_of page ≤ entries_per_page → IsRising (entries_of page) → node_fits id page ≡ true → IsNodePage id page
node_right id page whole room rising h =
    let k = and_left (node_kind id page) (all_entries id page && (links_fit page && (has_clean_header page && clean_fits page))) h in
    let a = and_right (node_kind id page) (all_entries id page && (links_fit page && (has_clean_header page && clean_fits page))) h in
    let es = and_left (all_entries id page) (links_fit page && (has_clean_header page && clean_fits page)) a in
    let b = and_right (all_entries id page) (links_fit page && (has_clean_header page && clean_fits page)) a in
    let ls = and_left (links_fit page) (has_clean_header page && clean_fits page) b in
    let c = and_right (links_fit page) (has_clean_header page && clean_fits page) b in
    let m = and_right (mark_test page) (high_test page && right_test page) ls in
    record {
      kind_is = kind_right id page es (either (branch_test id page) (leaf_test id page) k);
      node = record {
        whole = whole;
        room = room;
        rising = rising;
        from_low = λ e c. key_from (branch_test id page) (low_of page) (high_of page) e.key e.place (fit_of id page es e c);
        below_high = λ e c. key_below (branch_test id page) (low_of page) (high_of page) e.key e.place (fit_of id page es e c);
      };
      mark = and_left (mark_test page) (high_test page && right_test page) ls;
      no_high = no_high (high_of page) (high_field page) (and_left (high_test page) (right_test page) m);
      right = both_same (right_field page == 0) (is_none (high_of page)) (and_right (high_test page) (right_test page) m);
      clean_header = and_left (has_clean_header page) (clean_fits page) c;
      clean = clean_right page (and_right (has_clean_header page) (clean_fits page) c);
    }

right_node : (id : PageId) (page : List ℕ) → IsNodePage id page → node_fits id page ≡ true
right_node id page h =
    and_both (node_kind id page) _ (kind_fits id page h.kind_is)
    (and_both (all_entries id page) _
    (all_pass (fit_test (branch_test id page) (low_of page) (high_of page)) (entries_of page)
    (λ e c. fits_entry (branch_test id page) (low_of page) (high_of page) e.key e.place (h.node.from_low e c) (h.node.below_high e c) (slot_fits id page h.kind_is e c)))
    (and_both (links_fit page) _
    (and_both (mark_test page) _ h.mark
    (and_both (high_test page) (right_test page) (high_or (high_of page) (high_field page) h.no_high) (same_both (right_field page == 0) (is_none (high_of page)) h.right)))
    (and_both (has_clean_header page) (clean_fits page) h.clean_header (right_clean page h.clean))))

abbrev Tested : PageId → List ℕ → Type 0
Tested id page = IsRising (entries_of page) × (node_fits id page ≡ true)

pub node_told : (id : PageId) (page : List ℕ) (b : Bool) → length page ≡ page_size → count_of page ≤ entries_per_page → IsTrue b ↔ Tested id page → IsTrue b ↔ IsNodePage id page
node_told id page b whole room h = (λ t. let r = h.0 t in node_right id page whole room r.0 r.1, λ n. h.1 (n.node.rising, right_node id page n))

pub no_room : (id : PageId) (page : List ℕ) → entries_per_page < count_of page → IsTrue false ↔ IsNodePage id page
no_room id page lt = (λ t. absurd cc, λ n. let r = n.node.room in absurd (omega (arith, lt, r)))
