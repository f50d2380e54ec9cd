-- The tests of leaves, and leaves that are right.
use Rattle.std.proofs.Common.{◌≡◌, ℕ, zero, suc, ◌<◌, ◌≤◌, Bool, true, false, ◌&&◌, List, [], ◌∷◌, Option, Some, None, is_some, refl, sym, ap, subst, ◌∙◌, arith}
use Rattle.std.specs.Prelude.{nat_lt, ◌||◌, if◌then◌else◌, Contains}
use Rattle.std.specs.List.{list_all}
use Rattle.std.specs.FinMap.{get, empty}
use Rattle.std.proofs.lemmas.Bool.Decides.{nat_tests}
use Rattle.ds_base.specs.Pages.{index_page}
use Rattle.ds_base.specs.declared.names.Place.{Place}
use Rattle.ds_model.specs.declared.log.LogRecord.{LogRecord}
use Rattle.index_leaf.specs.declared.layout.Entry.{Entry}
use Rattle.index_leaf.specs.declared.step.Look.{Look}
use Rattle.index_leaf.specs.declared.step.Look.TheVariants.{Right}
use Rattle.index_leaf.specs.Entries.{low_of, high_of, right_field, entries_of}
use Rattle.index_leaf.specs.Nodes.{IsNode}
use Rattle.index_leaf.specs.Search.{is_branch, is_beyond, find, floor, down_to, found_at, look_of}
use Rattle.index_protocol.specs.Index.{Leaf, beyond}
use Rattle.index_protocol.specs.Opening.{IsSound}
use Rattle.page_images.specs.Images.{Images}
use Rattle.sound_disk.specs.Indexes.{AreIndexPages, index_next}
use Rattle.sound_disk.specs.Index_views.{kind_in, link_to, led_by, leads as led_to, index_of}
use Rattle.sound_disk.specs.Rows_there.{IsPlaceOf}
use Rattle.sound_disk.specs.Tables.{leaf_entry, IsWholeIndex}
use Rattle.table_pages.proofs.Booleans.{and_left, and_right, and_both}
use Rattle.table_pages.proofs.Nodes.{each_passes, all_pass}
use Rattle.index_links.specs.Opens.{Opens}
use Rattle.index_links.proofs.Kinds_in.{InIndex, named, named_made, leaf_is, made_inside, inside_named}
use Rattle.index_links.proofs.Found.{found, find_it}
use Rattle.index_places.specs.declared.slots.Given.{Given}
use Rattle.index_places.specs.Placing.{places_from, leads, lands_at, has_place, leaf_stands, AreGiven}
use Rattle.index_places.specs.Whole.{IsRightLeaf}
use Rattle.index_places.proofs.Maps.{same_is, same_itself, place_is, is_it, slot_of, places_get, places_has, entry_at}

-- ---- a key's leaf

abbrev Sound : Images → List LogRecord → ℕ → (ℕ → ℕ) → Type 0
Sound at records table home = IsSound (index_of at records table home)

home_in : (at : Images) (records : List LogRecord) (table : ℕ) (home : ℕ → ℕ) (key : ℕ) → AreIndexPages at table → Sound at records table home → InIndex at table (home key)
home_in at records table home key p s = made_inside at table (home key) p (named_made false (kind_in (at (index_page table (home key)))) (s.home_leaf key))

leaf_kind : (at : Images) (table n : ℕ) → AreIndexPages at table → InIndex at table n → is_branch (at (index_page table n)) ≡ false → kind_in (at (index_page table n)) ≡ Leaf
leaf_kind at table n p i leaf = inside_named at table n p i ∙ ap named leaf

-- an entry of a leaf is of one of its keys
entry_home : (at : Images) (records : List LogRecord) (table : ℕ) (home : ℕ → ℕ) (n : ℕ) (e : Entry) → AreIndexPages at table → Sound at records table home → InIndex at table n → is_branch (at (index_page table n)) ≡ false
    → Contains (entries_of (at (index_page table n))) e → home e.key ≡ n
entry_home at records table home n e p s i leaf c =
    let page : List ℕ = at (index_page table n) in
    let finds : find (entries_of page) e.key ≡ Some e = find_it (entries_of page) e ((p.pages n i.from i.to).node.rising) c in
    sym (s.no_other e.key n (led_by (kind_in page) e) (leaf_kind at table n p i leaf) (ap (led_to (kind_in page)) finds))

entry_found : (at : Images) (table : ℕ) (home : ℕ → ℕ) (n : ℕ) (e : Entry) → AreIndexPages at table → InIndex at table n → home e.key ≡ n → Contains (entries_of (at (index_page table n))) e → leaf_entry at table home e.key ≡ Some e
entry_found at table home n e p i here c =
    ap (λ (m : ℕ). find (entries_of (at (index_page table m))) e.key) here ∙ find_it (entries_of (at (index_page table n))) e ((p.pages n i.from i.to).node.rising) c

beyond_is : (o : Option ℕ) (right key : ℕ) → beyond (link_to right o) key ≡ is_beyond o key
unfolding beyond
beyond_is None right key = refl
beyond_is (Some high) right key = refl

-- a key from the low key on and not beyond the page is one of its keys
key_home : (at : Images) (records : List LogRecord) (table : ℕ) (home : ℕ → ℕ) (n key : ℕ) → AreIndexPages at table → Sound at records table home → InIndex at table n → is_branch (at (index_page table n)) ≡ false
    → low_of (at (index_page table n)) ≤ key → is_beyond (high_of (at (index_page table n))) key ≡ false → home key ≡ n
key_home at records table home n key p s i leaf low high =
    let page : List ℕ = at (index_page table n) in
    sym (s.home_one key n (leaf_kind at table n p i leaf) low (beyond_is (high_of page) (right_field page) key ∙ high))

home_high : (at : Images) (records : List LogRecord) (table : ℕ) (home : ℕ → ℕ) (key : ℕ) → Sound at records table home → is_beyond (high_of (at (index_page table (home key)))) key ≡ false
home_high at records table home key s =
    let page : List ℕ = at (index_page table (home key)) in
    sym (beyond_is (high_of page) (right_field page) key) ∙ s.home_covers key

-- ---- tests

not_below : (m n : ℕ) → n ≤ m → nat_lt m n ≡ false
not_below m n le = grind (arith, nat_tests)

upto_of : (m n : ℕ) → nat_lt m n ≡ false → n ≤ m
upto_of m n h = grind (arith, nat_tests)

or_right : (a b : Bool) → a ≡ false → (a || b) ≡ true → b ≡ true
or_right true b f h = absurd cc
or_right false b f h = h

or_by : (a b : Bool) → (a ≡ false → b ≡ true) → (a || b) ≡ true
or_by true b h = refl
or_by false b h = h refl

leaf_both : (b l h : Bool) → b ≡ false → (if b then true else l && h) ≡ true → (l && h) ≡ true
leaf_both true l h leaf t = absurd cc
leaf_both false l h leaf t = t

leaf_by : (b l h : Bool) → (b ≡ false → l ≡ true) → (b ≡ false → h ≡ true) → (if b then true else l && h) ≡ true
leaf_by true l h x y = refl
leaf_by false l h x y = and_both l h (x refl) (y refl)

entry_is : (e : Entry) (key : ℕ) (place : Place) → e.key ≡ key → e.place ≡ place → e ≡ entry_at key place
entry_is e key place k p = ap (λ (x : ℕ). entry_at x e.place) k ∙ ap (entry_at key) p

found_is : (es : List Entry) (key : ℕ) (place : Place) (o : Option Entry) → find es key ≡ o → lands_at (found_at o) place ≡ true → find es key ≡ Some (entry_at key place)
found_is es key place None is t = absurd cc
found_is es key place (Some e) is t =
    let f = found es key e is in
    is ∙ ap (λ (x : Entry). Some x) (entry_is e key place f.key_is (same_is e.place place t))

went : (a b : Bool) (x y z : Look) → a ≡ false → b ≡ false → (if a then x else if b then y else z) ≡ z
went true b x y z f g = absurd cc
went false true x y z f g = absurd cc
went false false x y z f g = refl

look_leaf : (page : List ℕ) (key : ℕ) → is_beyond (high_of page) key ≡ false → is_branch page ≡ false → look_of page key ≡ found_at (find (entries_of page) key)
look_leaf page key high leaf =
    went (is_beyond (high_of page) key) (is_branch page) (Right (right_field page)) (down_to (floor (entries_of page) key)) (found_at (find (entries_of page) key)) high leaf

-- the place stands in the leaf, if the key is the leaf's
place_found : (page : List ℕ) (g : Given) → low_of page ≤ g.key → is_beyond (high_of page) g.key ≡ false → is_branch page ≡ false → has_place page g ≡ true → find (entries_of page) g.key ≡ Some (entry_at g.key g.place)
place_found page g low high leaf h =
    let lands = or_right (nat_lt g.key (low_of page)) (lands_at (look_of page g.key) g.place) (not_below g.key (low_of page) low) h in
    found_is (entries_of page) g.key g.place (find (entries_of page) g.key) refl (ap (λ (x : Look). lands_at x g.place) (sym (look_leaf page g.key high leaf)) ∙ lands)

lands_in : (out branch : Bool) (right : ℕ) (down : Look) (o : Option Entry) (key : ℕ) (place : Place) → branch ≡ false → (out ≡ false → o ≡ Some (entry_at key place))
    → lands_at (if out then Right right else if branch then down else found_at o) place ≡ true
lands_in true branch right down o key place leaf h = refl
lands_in false true right down o key place leaf h = absurd cc
lands_in false false right down o key place leaf h = ap (λ (x : Option Entry). lands_at (found_at x) place) (h refl) ∙ same_itself place

found_place : (page : List ℕ) (g : Given) → is_branch page ≡ false → (low_of page ≤ g.key → is_beyond (high_of page) g.key ≡ false → find (entries_of page) g.key ≡ Some (entry_at g.key g.place)) → has_place page g ≡ true
found_place page g leaf h =
    or_by (nat_lt g.key (low_of page)) (lands_at (look_of page g.key) g.place)
    (λ low. lands_in (is_beyond (high_of page) g.key) (is_branch page) (right_field page) (down_to (floor (entries_of page) g.key)) (find (entries_of page) g.key) g.key g.place leaf (h (upto_of g.key (low_of page) low)))

-- ---- of all slots

each_given : (f : Given → Bool) (gs : List Given) → list_all f gs ≡ true → (x : Given) → Contains gs x → f x ≡ true
each_given f [] h x (k, lt, same) = absurd (omega arith)
each_given f (y ∷ ys) h x (zero, lt, same) = subst (λ (z : Given). f z ≡ true) same (and_left (f y) (list_all f ys) h)
each_given f (y ∷ ys) h x (suc k, lt, same) = each_given f ys (and_right (f y) (list_all f ys) h) x (k, omega arith, same)

given_later : (y : Given) (ys : List Given) (x : Given) → Contains ys x → Contains (y ∷ ys) x
given_later y ys x (k, lt, same) = (suc k, omega arith, same)

all_given : (f : Given → Bool) (gs : List Given) → ((x : Given) → Contains gs x → f x ≡ true) → list_all f gs ≡ true
all_given f [] h = refl
all_given f (y ∷ ys) h = and_both (f y) (list_all f ys) (h y (zero, omega arith, refl)) (all_given f ys (λ x c. h x (given_later y ys x c)))

-- ---- a leaf that passes the test is right

abbrev pub Test : ℕ → List Given → List ℕ → Bool
Test table given page = leaf_stands (places_from table empty given) table given page

abbrev AllLead : ℕ → List Given → List ℕ → Bool
AllLead table given page = list_all (leads (places_from table empty given) table) (entries_of page)

abbrev AllThere : List Given → List ℕ → Bool
AllThere given page = list_all (has_place page) given

both_pass : (table : ℕ) (given : List Given) (page : List ℕ) → is_branch page ≡ false → Test table given page ≡ true → (AllLead table given page && AllThere given page) ≡ true
both_pass table given page leaf t = leaf_both (is_branch page) (AllLead table given page) (AllThere given page) leaf t

entry_leads : (at : Images) (table : ℕ) (given : List Given) (page : List ℕ) (e : Entry) → AreGiven at table given → AllLead table given page ≡ true → Contains (entries_of page) e → IsPlaceOf at table e.key e.place
entry_leads at table given page e g all c =
    let q = each_passes (leads (places_from table empty given) table) (entries_of page) all e c in
    (g e.key e.place).1 (places_get table e.key e.place given (place_is (get (places_from table empty given) (table, e.key)) e.place q))

slot_reached : (at : Images) (table : ℕ) (given : List Given) (page : List ℕ) (e : Entry) → AreGiven at table given → is_branch page ≡ false → AllThere given page ≡ true → low_of page ≤ e.key → is_beyond (high_of page) e.key ≡ false
    → IsPlaceOf at table e.key e.place → find (entries_of page) e.key ≡ Some e
slot_reached at table given page e g leaf all low high h =
    let q = each_given (has_place page) given all (slot_of e.key e.place) ((g e.key e.place).0 h) in
    place_found page (slot_of e.key e.place) low high leaf q

pub test_right : (at : Images) (table : ℕ) (given : List Given) (page : List ℕ) → AreGiven at table given → Test table given page ≡ true → is_branch page ≡ false → IsRightLeaf at table page
test_right at table given page g t leaf = record {
  leads = λ e c. entry_leads at table given page e g (and_left (AllLead table given page) (AllThere given page) (both_pass table given page leaf t)) c;
  reached = λ e low high h. slot_reached at table given page e g leaf (and_right (AllLead table given page) (AllThere given page) (both_pass table given page leaf t)) low high h;
}

-- ---- and one that is right passes it

some_is : (o : Option Place) → is_some o ≡ true → (p : Place) × (o ≡ Some p)
some_is None h = absurd cc
some_is (Some p) h = (p, refl)

entry_same : (a b : Entry) → Some a ≡ Some b → a ≡ b
entry_same a b q = cc

place_eq : (a b : Place) (key : ℕ) → Some (entry_at key a) ≡ Some (entry_at key b) → a ≡ b
place_eq a b key q = ap (λ (e : Entry). e.place) (entry_same (entry_at key a) (entry_at key b) q)

leads_one : (at : Images) (table : ℕ) (given : List Given) (page : List ℕ) (e : Entry) → AreGiven at table given → IsNode page → IsRightLeaf at table page → Contains (entries_of page) e → leads (places_from table empty given) table e ≡ true
leads_one at table given page e g node r c =
    let here = find_it (entries_of page) e node.rising c in
    let has = places_has table (slot_of e.key e.place) given ((g e.key e.place).0 (r.leads e c)) in
    let q = some_is (get (places_from table empty given) (table, e.key)) has in
    let there = r.reached (entry_at e.key q.0) (node.from_low e c) (node.below_high e c) ((g e.key q.0).1 (places_get table e.key q.0 given q.1)) in
    let same : q.0 ≡ e.place = place_eq q.0 e.place e.key (sym there ∙ here) in
    is_it (get (places_from table empty given) (table, e.key)) e.place (q.1 ∙ ap (λ (x : Place). Some x) same)

has_one : (at : Images) (table : ℕ) (given : List Given) (page : List ℕ) (x : Given) → AreGiven at table given → is_branch page ≡ false → IsRightLeaf at table page → Contains given x → has_place page x ≡ true
has_one at table given page x g leaf r c = found_place page x leaf (λ low high. r.reached (entry_at x.key x.place) low high ((g x.key x.place).1 c))

pub right_test : (at : Images) (table : ℕ) (given : List Given) (page : List ℕ) → AreGiven at table given → IsNode page → (is_branch page ≡ false → IsRightLeaf at table page) → Test table given page ≡ true
right_test at table given page g node r =
    leaf_by (is_branch page) (AllLead table given page) (AllThere given page)
    (λ leaf. all_pass (leads (places_from table empty given) table) (entries_of page) (λ e c. leads_one at table given page e g node (r leaf) c))
    (λ leaf. all_given (has_place page) given (λ x c. has_one at table given page x g leaf (r leaf) c))

-- ---- all leaves

abbrev pub IsRightIn : Images → ℕ → ℕ → Type 0
IsRightIn at table n = is_branch (at (index_page table n)) ≡ false → IsRightLeaf at table (at (index_page table n))

pub whole_of : (at : Images) (records : List LogRecord) (table : ℕ) → AreIndexPages at table → Opens at records table → ((n : ℕ) → 1 ≤ n → n < index_next at table → IsRightIn at table n) → IsWholeIndex at records table
whole_of at records table p o r =
    let all : (key : ℕ) → IsRightLeaf at table (at (index_page table (o.home key))) =
    λ key. let i = home_in at records table o.home key p o.sound in r (o.home key) i.from i.to (leaf_is (at (index_page table (o.home key))) (o.sound.home_leaf key)) in
    record {
      pages = p;
      home = o.home;
      opens = o.sound;
      leads = λ e h. (all e.key).leads e (found (entries_of (at (index_page table (o.home e.key)))) e.key e h).among;
      reached = λ e h. (all e.key).reached e (o.sound.home_low e.key) (home_high at records table o.home e.key o.sound) h;
    }

pub whole_leaf : (at : Images) (records : List LogRecord) (table n : ℕ) → IsWholeIndex at records table → InIndex at table n → IsRightIn at table n
whole_leaf at records table n w i leaf = record {
  leads = λ e c. w.leads e (entry_found at table w.home n e w.pages i (entry_home at records table w.home n e w.pages w.opens i leaf c) c);
  reached = λ e low high h.
      let here : w.home e.key ≡ n = key_home at records table w.home n e.key w.pages w.opens i leaf low high in
      subst (λ (m : ℕ). find (entries_of (at (index_page table m))) e.key ≡ Some e) here (w.reached e h);
}
