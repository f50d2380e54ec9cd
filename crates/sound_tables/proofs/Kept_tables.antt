-- The tables behind a compensation, by the pages: those of all tables but the page of its row stay.
use Rattle.std.proofs.Common.{◌≡◌, ℕ, zero, suc, ◌+◌, ◌*◌, ◌^◌, ◌<◌, ◌≤◌, Bool, true, false, cond, List, [], ◌∷◌, ◌++◌, length, drop, Option, Some, None, Ok, inl, inr, ◌⊎◌, refl, sym, ap, subst, ◌∙◌, arith}
use Rattle.std.specs.Prelude.{◌==◌, ◌&&◌, if◌then◌else◌, filter, slice_index}
use Rattle.std.proofs.Math.Nat.{zero-mul}
use Rattle.std.proofs.Math.Path.{fun_ext}
use Rattle.std.proofs.lemmas.Bool.{cases_Bool, cases_lt, and_parts, and_from, eqb-true, eq-eqb, both_ways, lt-ltb}
use Rattle.std.proofs.lemmas.List.{append-nil, get_or-drop}
use Rattle.std.proofs.lemmas.List.Elements.{filter-append}
use Rattle.byteorder.specs.Endian.{big_from}
use Rattle.ds_base.specs.Pages.{heap_page, index_page}
use Rattle.ds_base.specs.declared.names.Place.{Place}
use Rattle.ds_model.specs.declared.log.LogRecord.{LogRecord}
use Rattle.ds_model.specs.declared.log.RowChange.{RowChange}
use Rattle.ds_model.specs.RecordBytes.{ChangeIsAllowed}
use Rattle.page_format.specs.Header.{is_zeros, header_in}
use Rattle.page_format.specs.declared.header.Header.{Header}
use Rattle.page_format.specs.declared.header.PageKind.{PageKind}
use Rattle.page_format.specs.declared.header.PageKind.TheVariants as kind
use Rattle.heap_space.specs.Layout.{slot_at}
use Rattle.heap_space.specs.Next.{last_page_of, given_of}
use Rattle.heap_space.specs.Slots.{content, slot_in, fault_in}
use Rattle.index_leaf.specs.declared.layout.Entry.{Entry}
use Rattle.index_leaf.specs.Entries.{low_of, count_of, entries_of}
use Rattle.index_leaf.specs.Changes.{next_page_of, half}
use Rattle.index_leaf.specs.Search.{find}
use Rattle.page_images.specs.Images.{Images}
use Rattle.page_chain.specs.Chains.{touches, images_of}
use Rattle.page_redo.specs.Rows.{or_fault, kind_fault, key_fault, slot_fault, headed_fault, change_fault}
use Rattle.index_protocol.specs.Opening.{Disk, IsSound}
use Rattle.sound_disk.specs.Layouts.{count_in}
use Rattle.sound_disk.specs.Heaps.{IsHeapHeader, IsRowPage, heap_last, IsHeap}
use Rattle.sound_disk.specs.Indexes.{IsIndexHeader, IsNodePage, index_next, AreIndexPages}
use Rattle.sound_disk.specs.Index_views.{kind_in, link_in, changes_by, changes_in, entry_of, index_of}
use Rattle.sound_disk.specs.Rows_there.{row_by, row_after, said_at, key_in, IsPlaceOf, Stood}
use Rattle.sound_disk.specs.Tables.{HasNoIndex, leaf_entry, IsWholeIndex, IsWholeTable}
use Rattle.sound_tables.proofs.Patched.{IsPatched, behind, count_kept, slot_kept, row_header, PageLaws, said_put, row_page}

-- ---- pages without slots

byte_none : (page : List ℕ) (k : ℕ) → is_zeros page ≡ true → slice_index page k ≡ 0
byte_none [] zero h = refl
byte_none [] (suc k) h = refl
byte_none (x ∷ xs) zero h = eqb-true x 0 (and_parts (x == 0) (is_zeros xs) h).0
byte_none (x ∷ xs) (suc k) h = byte_none xs k (and_parts (x == 0) (is_zeros xs) h).1

zero_from : (n i : ℕ) (xs : List ℕ) → ((k : ℕ) → slice_index xs k ≡ 0) → big_from i n xs ≡ 0
zero_from zero i xs h = refl
zero_from (suc n) i xs h =
    let rest = zero_from n (suc i) xs h in
    let none = zero-mul (256 ^ n) in
    ap (λ (b : ℕ). b * 256 ^ n + big_from (suc i) n xs) (h i) ∙ omega (arith, rest, none)

blank_count : (page : List ℕ) → is_zeros page ≡ true → count_in page ≡ 0
blank_count page h = zero_from 2 0 (drop 26 page) (λ k. get_or-drop 26 page k 0 ∙ byte_none page (26 + k) h)

-- ---- the page of the row, and the others

-- the row's page has the row afterwards in its slot, all other pages stay
pub record IsBehind (before after : Images) (c : RowChange) (lrsn : ℕ) : Type 0 where
  pub here : after (heap_page c.table c.place.page) ≡ behind (before (heap_page c.table c.place.page)) c lrsn
  pub patched : IsPatched (before (heap_page c.table c.place.page)) c lrsn
  pub pages : (q : ℕ) → (c.place.page == q) ≡ false → after (heap_page c.table q) ≡ before (heap_page c.table q)
  pub tables : (t : ℕ) → 1 ≤ t → (c.table == t) ≡ false → (q : ℕ) → after (heap_page t q) ≡ before (heap_page t q)
  pub indexes : (t n : ℕ) → after (index_page t n) ≡ before (index_page t n)

-- whose slot the key has
abbrev pub HasSlot : Images → RowChange → Type 0
HasSlot at c = IsPlaceOf at c.table c.key c.place

-- it is the row's page, or one that stays
abbrev IsHere : RowChange → ℕ → ℕ → Type 0
IsHere c t q = (c.table ≡ t) × (c.place.page ≡ q)

here_or_not : (before after : Images) (c : RowChange) (lrsn : ℕ) → IsBehind before after c lrsn → (t : ℕ) → 1 ≤ t → (q : ℕ) → IsHere c t q ⊎ (after (heap_page t q) ≡ before (heap_page t q))
here_or_not before after c lrsn h t some q = elim (cases_Bool (c.table == t)) [
  | inl same ↦ (
      let e : c.table ≡ t = eqb-true c.table t same in
      elim (cases_Bool (c.place.page == q)) [
        | inl there ↦ inl (e, eqb-true c.place.page q there)
        | inr other ↦ inr (subst (λ (n : ℕ). after (heap_page n q) ≡ before (heap_page n q)) e (h.pages q other))
      ])
  | inr other ↦ inr (h.tables t some other q)
]

-- what holds of both holds of each page of a heap
heap_both : (P : List ℕ → List ℕ → Type 0) (before after : Images) (c : RowChange) (lrsn : ℕ) → IsBehind before after c lrsn → (t : ℕ) → 1 ≤ t → (q : ℕ)
    → (IsHere c t q → P (before (heap_page c.table c.place.page)) (behind (before (heap_page c.table c.place.page)) c lrsn)) → P (before (heap_page t q)) (before (heap_page t q)) → P (before (heap_page t q)) (after (heap_page t q))
heap_both P before after c lrsn h t some q here other = elim (here_or_not before after c lrsn h t some q) [
  | inl is ↦
      subst (λ (n : ℕ). P (before (heap_page n q)) (after (heap_page n q))) is.0
      (subst (λ (n : ℕ). P (before (heap_page c.table n)) (after (heap_page c.table n))) is.1
      (subst (P (before (heap_page c.table c.place.page))) (sym h.here) (here is)))
  | inr same ↦ subst (P (before (heap_page t q))) (sym same) other
]

count_same : PageLaws → (before after : Images) (c : RowChange) (lrsn : ℕ) → IsBehind before after c lrsn → (t : ℕ) → 1 ≤ t → (q : ℕ) → count_in (after (heap_page t q)) ≡ count_in (before (heap_page t q))
count_same l before after c lrsn h t some q =
    heap_both (λ (old new : List ℕ). count_in new ≡ count_in old) before after c lrsn h t some q (λ is. count_kept l (before (heap_page c.table c.place.page)) c lrsn h.patched) refl

-- ---- slots

-- the place is that of the row
abbrev IsThere : RowChange → ℕ → Place → Type 0
IsThere c t p = (c.table ≡ t) × (c.place.page ≡ p.page) × (c.place.slot ≡ p.slot)

said_here : PageLaws → (before after : Images) (c : RowChange) (lrsn : ℕ) → IsBehind before after c lrsn → said_at after c.table c.place ≡ Some (c.key, c.after)
said_here l before after c lrsn h =
    ap (λ (page : List ℕ). content (slot_in page c.place.slot)) h.here ∙ said_put l (before (heap_page c.table c.place.page)) c lrsn h.patched

said_there : PageLaws → (before after : Images) (c : RowChange) (lrsn : ℕ) → IsBehind before after c lrsn → (t : ℕ) (p : Place) → IsThere c t p → said_at after t p ≡ Some (c.key, c.after)
said_there l before after c lrsn h t p is =
    subst (λ (n : ℕ). content (slot_in (after (heap_page n p.page)) p.slot) ≡ Some (c.key, c.after)) is.0
    (subst (λ (n : ℕ). content (slot_in (after (heap_page c.table n)) p.slot) ≡ Some (c.key, c.after)) is.1
    (subst (λ (n : ℕ). content (slot_in (after (heap_page c.table c.place.page)) n) ≡ Some (c.key, c.after)) is.2 (said_here l before after c lrsn h)))

-- at another place the slot stays
said_or_not : PageLaws → (before after : Images) (c : RowChange) (lrsn : ℕ) → IsBehind before after c lrsn → (t : ℕ) → 1 ≤ t → (p : Place) → IsThere c t p ⊎ (said_at after t p ≡ said_at before t p)
said_or_not l before after c lrsn h t some p = elim (here_or_not before after c lrsn h t some p.page) [
  | inl is ↦ elim (cases_Bool (c.place.slot == p.slot)) [
    | inl slot ↦ inl (is.0, is.1, eqb-true c.place.slot p.slot slot)
    | inr other ↦ inr (heap_both (λ (old new : List ℕ). content (slot_in new p.slot) ≡ content (slot_in old p.slot)) before after c lrsn h t some p.page
        (λ e. ap content (slot_kept l (before (heap_page c.table c.place.page)) c lrsn h.patched p.slot other)) refl)
  ]
  | inr same ↦ inr (ap (λ (page : List ℕ). content (slot_in page p.slot)) same)
]

said_before : (before : Images) (c : RowChange) (t : ℕ) (p : Place) → IsThere c t p → key_in (said_at before c.table c.place) ≡ key_in (said_at before t p)
said_before before c t p is =
    ap (λ (n : ℕ). key_in (content (slot_in (before (heap_page n c.place.page)) c.place.slot))) is.0
    ∙ ap (λ (n : ℕ). key_in (content (slot_in (before (heap_page t n)) c.place.slot))) is.1
    ∙ ap (λ (n : ℕ). key_in (content (slot_in (before (heap_page t p.page)) n))) is.2

-- each slot stays its key's
key_same : PageLaws → (before after : Images) (c : RowChange) (lrsn : ℕ) → IsBehind before after c lrsn → HasSlot before c → (t : ℕ) → 1 ≤ t → (p : Place) → key_in (said_at after t p) ≡ key_in (said_at before t p)
key_same l before after c lrsn h has t some p = elim (said_or_not l before after c lrsn h t some p) [
  | inl is ↦ ap key_in (said_there l before after c lrsn h t p is) ∙ sym has.key_is ∙ said_before before c t p is
  | inr same ↦ ap key_in same
]

pub place_behind : PageLaws → (before after : Images) (c : RowChange) (lrsn : ℕ) → IsBehind before after c lrsn → HasSlot before c → (t : ℕ) → 1 ≤ t → (key : ℕ) (p : Place) → IsPlaceOf before t key p → IsPlaceOf after t key p
place_behind l before after c lrsn h has t some key p is =
    let count = count_same l before after c lrsn h t some p.page in
    let given = is.given in
    record { given = omega (arith, given, count); key_is = key_same l before after c lrsn h has t some p ∙ is.key_is }

place_before : PageLaws → (before after : Images) (c : RowChange) (lrsn : ℕ) → IsBehind before after c lrsn → HasSlot before c → (t : ℕ) → 1 ≤ t → (key : ℕ) (p : Place) → IsPlaceOf after t key p → IsPlaceOf before t key p
place_before l before after c lrsn h has t some key p is =
    let count = count_same l before after c lrsn h t some p.page in
    let given = is.given in
    record { given = omega (arith, given, count); key_is = sym (key_same l before after c lrsn h has t some p) ∙ is.key_is }

-- ---- the heap

-- the page of the row has slots, so it isn't blank; and it isn't the header page
blank_stays : (before after : Images) (c : RowChange) (lrsn : ℕ) → IsBehind before after c lrsn → HasSlot before c → (t : ℕ) → 1 ≤ t → (q : ℕ) → is_zeros (before (heap_page t q)) ≡ true → is_zeros (after (heap_page t q)) ≡ true
blank_stays before after c lrsn h has t some q none = elim (here_or_not before after c lrsn h t some q) [
  | inl is ↦ (
      let blank : is_zeros (before (heap_page c.table c.place.page)) ≡ true =
      ap (λ (n : ℕ). is_zeros (before (heap_page n c.place.page))) is.0 ∙ ap (λ (n : ℕ). is_zeros (before (heap_page t n))) is.1 ∙ none in
      let count = blank_count (before (heap_page c.table c.place.page)) blank in
      let given = has.given in
      absurd (omega (arith, count, given)))
  | inr same ↦ ap (λ (l : List ℕ). is_zeros l) same ∙ none
]

header_stays : (before after : Images) (c : RowChange) (lrsn : ℕ) → IsBehind before after c lrsn → (t : ℕ) → 1 ≤ t → after (heap_page t 0) ≡ before (heap_page t 0)
header_stays before after c lrsn h t some = elim (here_or_not before after c lrsn h t some 0) [
  | inl is ↦ absurd (h.patched.allowed.page_some is.1)
  | inr same ↦ same
]

row_stays : PageLaws → (before after : Images) (c : RowChange) (lrsn : ℕ) → IsBehind before after c lrsn → HasSlot before c → (t : ℕ) → 1 ≤ t → (q : ℕ) → IsRowPage (heap_page t q) (before (heap_page t q)) → IsRowPage (heap_page t q) (after (heap_page t q))
row_stays l before after c lrsn h has t some q is = elim (here_or_not before after c lrsn h t some q) [
  | inl e ↦ (
      let old : IsRowPage (heap_page c.table c.place.page) (before (heap_page c.table c.place.page)) =
      subst (λ (n : ℕ). IsRowPage (heap_page n c.place.page) (before (heap_page n c.place.page))) (sym e.0)
      (subst (λ (n : ℕ). IsRowPage (heap_page t n) (before (heap_page t n))) (sym e.1) is) in
      let new : IsRowPage (heap_page c.table c.place.page) (after (heap_page c.table c.place.page)) =
      subst (IsRowPage (heap_page c.table c.place.page)) (sym h.here) (row_page l (heap_page c.table c.place.page) (before (heap_page c.table c.place.page)) c lrsn h.patched has.given old) in
      subst (λ (n : ℕ). IsRowPage (heap_page n q) (after (heap_page n q))) e.0
      (subst (λ (n : ℕ). IsRowPage (heap_page c.table n) (after (heap_page c.table n))) e.1 new))
  | inr same ↦ subst (IsRowPage (heap_page t q)) (sym same) is
]

heap_stays : PageLaws → (before after : Images) (c : RowChange) (lrsn : ℕ) → IsBehind before after c lrsn → HasSlot before c → (t : ℕ) → 1 ≤ t → IsHeap before t → IsHeap after t
heap_stays l before after c lrsn h has t some is =
    let first = header_stays before after c lrsn h t some in
    let last : heap_last after t ≡ heap_last before t = ap last_page_of first in
    record {
      header = subst (λ (page : List ℕ). (is_zeros page ≡ true) ⊎ IsHeapHeader (heap_page t 0) page) (sym first) is.header;
      pages = λ p from upto. row_stays l before after c lrsn h has t some p (is.pages p from (omega (arith, upto, last)));
      last = λ from.
          ap (λ (n : ℕ). count_in (after (heap_page t n))) last
          ∙ count_same l before after c lrsn h t some (heap_last before t)
          ∙ is.last (omega (arith, from, last))
          ∙ sym (ap given_of first);
      rest = λ p past. blank_stays before after c lrsn h has t some p (is.rest p (omega (arith, past, last)));
    }

-- ---- the index

index_stays : (before after : Images) (c : RowChange) (lrsn : ℕ) → IsBehind before after c lrsn → (t : ℕ) → AreIndexPages before t → AreIndexPages after t
index_stays before after c lrsn h t is =
    let next : index_next after t ≡ index_next before t = ap next_page_of (h.indexes t 0) in
    record {
      header = subst (IsIndexHeader (index_page t 0)) (sym (h.indexes t 0)) is.header;
      pages = λ n from below. subst (IsNodePage (index_page t n)) (sym (h.indexes t n)) (is.pages n from (omega (arith, below, next)));
      full = λ n from below. subst (λ (page : List ℕ). half ≤ count_of page) (sym (h.indexes t n)) (is.full n from (omega (arith, below, next)));
      rest = λ n past. subst (λ (page : List ℕ). is_zeros page ≡ true) (sym (h.indexes t n)) (is.rest n (omega (arith, past, next)));
    }

-- by its pages, and how many records have changed each
abbrev disk_by : (ℕ → List ℕ) → (ℕ → ℕ) → (ℕ → ℕ) → Disk
disk_by page count home = record {
  kind = λ n. kind_in (page n);
  low = λ n. low_of (page n);
  last = λ n. changes_by (kind_in (page n)) (count n);
  link = λ n. link_in (page n);
  entry = λ n. entry_of (page n);
  home = home;
}

sound_stays : (before after : Images) (c : RowChange) (lrsn : ℕ) → IsBehind before after c lrsn → (records more : List LogRecord) (t : ℕ) (home : ℕ → ℕ) → ((n : ℕ) → changes_in more t n ≡ changes_in records t n)
    → IsSound (index_of before records t home) → IsSound (index_of after more t home)
sound_stays before after c lrsn h records more t home count is =
    let pages : (λ (n : ℕ). before (index_page t n)) ≡ (λ (n : ℕ). after (index_page t n)) = fun_ext (λ n. sym (h.indexes t n)) in
    let counts : (λ (n : ℕ). changes_in records t n) ≡ (λ (n : ℕ). changes_in more t n) = fun_ext (λ n. sym (count n)) in
    subst (λ (f : ℕ → List ℕ). IsSound (disk_by f (λ n. changes_in more t n) home)) pages
    (subst (λ (k : ℕ → ℕ). IsSound (disk_by (λ n. before (index_page t n)) k home)) counts is)

pub count_stays : (t n : ℕ) (records : List LogRecord) (r : LogRecord) → touches (index_page t n) r ≡ false → changes_in (records ++ r ∷ []) t n ≡ changes_in records t n
count_stays t n records r none =
    ap (λ (l : List LogRecord). length l)
    (filter-append (touches (index_page t n)) records (r ∷ []) ∙ ap (λ (b : Bool). filter (touches (index_page t n)) records ++ cond b (r ∷ []) []) none ∙ append-nil (filter (touches (index_page t n)) records))

leaf_same : (before after : Images) (c : RowChange) (lrsn : ℕ) → IsBehind before after c lrsn → (t : ℕ) (home : ℕ → ℕ) (key : ℕ) → leaf_entry after t home key ≡ leaf_entry before t home key
leaf_same before after c lrsn h t home key = ap (λ (page : List ℕ). find (entries_of page) key) (h.indexes t (home key))

whole_stays : PageLaws → (before after : Images) (c : RowChange) (lrsn : ℕ) → IsBehind before after c lrsn → HasSlot before c → (t : ℕ) → 1 ≤ t → (records more : List LogRecord) → ((n : ℕ) → changes_in more t n ≡ changes_in records t n)
    → IsWholeIndex before records t → IsWholeIndex after more t
whole_stays l before after c lrsn h has t some records more count is = record {
  pages = index_stays before after c lrsn h t is.pages;
  home = is.home;
  opens = sound_stays before after c lrsn h records more t is.home count is.opens;
  leads = λ e there. place_behind l before after c lrsn h has t some e.key e.place (is.leads e (sym (leaf_same before after c lrsn h t is.home e.key) ∙ there));
  reached = λ e there. leaf_same before after c lrsn h t is.home e.key ∙ is.reached e (place_before l before after c lrsn h has t some e.key e.place there);
}

none_stays : PageLaws → (before after : Images) (c : RowChange) (lrsn : ℕ) → IsBehind before after c lrsn → HasSlot before c → (t : ℕ) → 1 ≤ t → HasNoIndex before t → HasNoIndex after t
none_stays l before after c lrsn h has t some is = record {
  zeros = λ n. ap (λ (l : List ℕ). is_zeros l) (h.indexes t n) ∙ is.zeros n;
  no_key = λ key p there. is.no_key key p (place_before l before after c lrsn h has t some key p there);
}

-- ---- rows

-- a key has one slot
place_in : Option Entry → Option Place
place_in None = None
place_in (Some e) = Some e.place

one_slot : (at : Images) (records : List LogRecord) (t key : ℕ) (p q : Place) → IsWholeIndex at records t → IsPlaceOf at t key p → IsPlaceOf at t key q → Some p ≡ Some q
unfolding place_in
one_slot at records t key p q is a b = ap place_in (sym (is.reached (record { key = key; place = p }) a) ∙ is.reached (record { key = key; place = q }) b)

one_place : (at : Images) (records : List LogRecord) (t key : ℕ) (p q : Place) → IsWholeTable at records t → IsPlaceOf at t key p → IsPlaceOf at t key q → p ≡ q
one_place at records t key p q is a b = elim is.index [
  | inl none ↦ absurd (none.no_key key p a)
  | inr whole ↦ (let e = one_slot at records t key p q whole a b in cc)
]

abbrev hits : ℕ → ℕ → RowChange → Bool
hits t key c = (c.table == t) && (c.key == key)

there_by : (before : Images) (records : List LogRecord) (c : RowChange) (t key : ℕ) (p : Place) → IsWholeTable before records t → HasSlot before c → hits t key c ≡ true → IsPlaceOf before t key p → IsThere c t p
there_by before records c t key p is has hit old =
    let both = and_parts (c.table == t) (c.key == key) hit in
    let table : c.table ≡ t = eqb-true c.table t both.0 in
    let own : IsPlaceOf before t key c.place = subst (λ (n : ℕ). IsPlaceOf before n key c.place) table (subst (λ (n : ℕ). IsPlaceOf before c.table n c.place) (eqb-true c.key key both.1) has) in
    let e : c.place ≡ p = one_place before records t key c.place p is own old in
    (table, ap (λ (x : Place). x.page) e, ap (λ (x : Place). x.slot) e)

some_key : (a b : ℕ) → Some a ≡ Some b → a ≡ b
some_key a b e = cc

rows_stay : PageLaws → (before after : Images) (c : RowChange) (lrsn : ℕ) → IsBehind before after c lrsn → HasSlot before c → (t : ℕ) → 1 ≤ t → (records more : List LogRecord) → ((key : ℕ) → row_after more t key ≡ row_by t key (row_after records t key) c)
    → IsWholeTable before records t → (key : ℕ) (p : Place) → IsPlaceOf after t key p → said_at after t p ≡ Some (key, row_after more t key)
rows_stay l before after c lrsn h has t some records more row is key p new =
    let old = place_before l before after c lrsn h has t some key p new in
    elim (cases_Bool (hits t key c)) [
      | inl hit ↦ (
          let there = there_by before records c t key p is has hit old in
          let both = and_parts (c.table == t) (c.key == key) hit in
          said_there l before after c lrsn h t p there
          ∙ ap (λ (k : ℕ). Some (k, c.after)) (eqb-true c.key key both.1)
          ∙ ap (λ (v : Option (List ℕ)). Some (key, v)) (sym (row key ∙ ap (λ (b : Bool). if b then c.after else row_after records t key) hit)))
      | inr miss ↦ (
          let stays : row_after more t key ≡ row_after records t key = row key ∙ ap (λ (b : Bool). if b then c.after else row_after records t key) miss in
          elim (said_or_not l before after c lrsn h t some p) [
            | inl there ↦ (
                let its : c.key ≡ key = some_key c.key key (sym (ap key_in (said_there l before after c lrsn h t p there)) ∙ new.key_is) in
                absurd (both_ways (hits t key c) miss (and_from (c.table == t) (c.key == key) (eq-eqb c.table t there.0) (eq-eqb c.key key its))))
            | inr same ↦ same ∙ is.rows key p old ∙ ap (λ (v : Option (List ℕ)). Some (key, v)) (sym stays)
          ])
    ]

pub table_stays : PageLaws → (before after : Images) (c : RowChange) (lrsn : ℕ) → IsBehind before after c lrsn → HasSlot before c → (t : ℕ) → 1 ≤ t → (records more : List LogRecord)
    → ((n : ℕ) → changes_in more t n ≡ changes_in records t n) → ((key : ℕ) → row_after more t key ≡ row_by t key (row_after records t key) c) → IsWholeTable before records t → IsWholeTable after more t
table_stays l before after c lrsn h has t some records more count row is = record {
  heap = heap_stays l before after c lrsn h has t some is.heap;
  index = elim is.index [
    | inl none ↦ inl (none_stays l before after c lrsn h has t some none)
    | inr whole ↦ inr (whole_stays l before after c lrsn h has t some records more count whole)
  ];
  rows = rows_stay l before after c lrsn h has t some records more row is;
}

-- ---- the change meets its row

from_one : (n : ℕ) → (n ≡ 0 → ⊥) → 1 ≤ n
from_one zero h = absurd (h refl)
from_one (suc n) h = omega arith

-- the page of the row is one of rows
page_there : (at : Images) (c : RowChange) → ChangeIsAllowed c → HasSlot at c → IsHeap at c.table → IsRowPage (heap_page c.table c.place.page) (at (heap_page c.table c.place.page))
page_there at c allowed has is = elim (cases_lt (heap_last at c.table) c.place.page) [
  | inl past ↦ (
      let count = blank_count (at (heap_page c.table c.place.page)) (is.rest c.place.page past) in
      let given = has.given in
      absurd (omega (arith, count, given)))
  | inr upto ↦ is.pages c.place.page (from_one c.place.page allowed.page_some) upto
]

slot_found : (page : List ℕ) (slot key : ℕ) (row : Option (List ℕ)) (h : Header) → h.kind ≡ kind.Heap → slot < h.count → fault_in page slot ≡ None → content (slot_in page slot) ≡ Some (key, row) → headed_fault slot key page (Ok h) ≡ None
slot_found page slot key row h is given none there =
    ap (λ (k : PageKind). or_fault (kind_fault k) (slot_fault slot key page h)) is
    ∙ ap (λ (b : Bool). if b then or_fault (fault_in page slot) (key_fault key (slot_at slot) (content (slot_in page slot))) else Some 26) (lt-ltb slot h.count given)
    ∙ ap (λ (f : Option ℕ). or_fault f (key_fault key (slot_at slot) (content (slot_in page slot)))) none
    ∙ ap (key_fault key (slot_at slot)) there
    ∙ ap (λ (b : Bool). if b then None else Some (slot_at slot + 8)) (eq-eqb key key refl)

-- the slot of a row's change is there, and its key's
pub change_found : (records : List LogRecord) (c : RowChange) → ChangeIsAllowed c → HasSlot (images_of records) c → IsWholeTable (images_of records) records c.table
    → change_fault (heap_page c.table c.place.page) c (images_of records (heap_page c.table c.place.page)) ≡ None
change_found records c allowed has is =
    let at = images_of records in
    let page = at (heap_page c.table c.place.page) in
    let rows = page_there at c allowed has is.heap in
    let header = row_header page (heap_page c.table c.place.page) rows.kind_is in
    ap (headed_fault c.place.slot c.key page) header.0
    ∙ slot_found page c.place.slot c.key (row_after records c.table c.key) (header_in page) header.1 has.given (rows.slots c.place.slot has.given).fault_none (is.rows c.key c.place has)

pub change_stands : (records : List LogRecord) (c : RowChange) → ChangeIsAllowed c → HasSlot (images_of records) c → IsWholeTable (images_of records) records c.table → row_after records c.table c.key ≡ c.before → Stood records c
change_stands records c allowed has is row = record {
  slot = change_found records c allowed has is;
  there = is.rows c.key c.place has ∙ ap (λ (v : Option (List ℕ)). Some (c.key, v)) row;
  before = row;
}
