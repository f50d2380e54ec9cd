-- The header page of each page set counts all pages that aren't zeros.
use Rattle.std.proofs.Common.{◌≡◌, ℕ, zero, suc, ◌+◌, ◌-◌, ◌*◌, ◌^◌, ◌<◌, ◌≤◌, Bool, true, cond, List, [], ◌∷◌, drop, Result, Ok, Err, inl, inr, refl, sym, ap, subst, ◌∙◌, arith}
use Rattle.std.specs.Prelude.{◌⊎◌, ◌==◌, nat_lt, nat_le, slice_index}
use Rattle.std.specs.List.{list_any}
use Rattle.std.proofs.lemmas.Bool.{and_parts, and_from, both_ways, cases_Bool, cases_lt, eqb-true, le-leb, lt-ltb}
use Rattle.std.proofs.lemmas.List.{get_or-drop}
use Rattle.std.proofs.Math.Nat.{zero-mul}
use Rattle.byteorder.specs.Endian.{big_from, big_number}
use Rattle.ds_base.specs.Pages.{heap_set, heap_page, index_set, index_page}
use Rattle.ds_base.specs.declared.names.PageId.{PageId}
use Rattle.ds_disk.specs.Contents.{Contents}
use Rattle.ds_disk.specs.Pages.{page_at}
use Rattle.ds_model.specs.declared.log.LogRecord.{LogRecord}
use Rattle.heap_space.specs.Layout.{last_page_at}
use Rattle.heap_space.specs.Next.{last_page_of, given_of, header_allowed}
use Rattle.index_leaf.specs.Changes.{next_at, next_page_of}
use Rattle.log_record.specs.declared.log.Log.{Log}
use Rattle.page_chain.specs.Chains.{touches}
use Rattle.page_format.specs.Fields.{number_in, is_old, renewed}
use Rattle.page_format.specs.Header.{is_zeros, header_of, first_fault, fields, header_in, empty_header, judged}
use Rattle.page_format.specs.declared.header.Header.{Header}
use Rattle.page_format.specs.declared.header.NotAPage.{NotAPage}
use Rattle.page_format.specs.declared.header.PageKind.{PageKind}
use Rattle.page_format.specs.declared.header.PageKind.TheVariants as kind
use Rattle.page_images.specs.Images.{Images}
use Rattle.page_images.specs.Parts.{part}
use Rattle.group_restart.specs.Renewal.{page_of, not_at, last_of_heap, last_of_index, last_by_kind, last_before, last_by, last_behind}
use Rattle.sound_disk.specs.Heaps.{heap_last, IsHeap, IsHeapHeader}
use Rattle.sound_disk.specs.Indexes.{index_next, AreIndexPages, IsNodePage}
use Rattle.sound_disk.specs.Layouts.{IsOfKind}
use Rattle.sound_disk.specs.Tables.{HasNoIndex, IsWholeIndex, IsWholeTable}
use Rattle.sound_disk.specs.Versions.{merged, last_images}
use Rattle.sound_restarts.specs.Redo.{IsSoundNow, IsLast}
use Rattle.sound_restarts.specs.Renewal.{OldIsCounted}
use Rattle.sound_restarts.proofs.Stamped.{version_renewed}
use Rattle.sound_restarts.proofs.Renewed.{RenewalLaws, IsOldPage}
use Rattle.sound_restarts.proofs.Brought.{current_new, current_old}
use Rattle.sound_restarts.proofs.Headers.{IsOfTable, IsSet, table_of, touched_set}
use Rattle.sound_restarts.proofs.Bringing.{DiskLaws, records_are, old_page, never_written}

-- ---- pages of zeros

byte_none : (page : List ℕ) (k : ℕ) → is_zeros page ≡ true → slice_index page k ≡ 0
byte_none [] zero h = refl
byte_none [] (suc k) h = refl
byte_none (x ∷ xs) zero h = eqb-true x 0 (and_parts (x == 0) (is_zeros xs) h).0
byte_none (x ∷ xs) (suc k) h = byte_none xs k (and_parts (x == 0) (is_zeros xs) h).1

zero_from : (n i : ℕ) (xs : List ℕ) → ((k : ℕ) → slice_index xs k ≡ 0) → big_from i n xs ≡ 0
zero_from zero i xs h = refl
zero_from (suc n) i xs h =
    let rest = zero_from n (suc i) xs h in
    let none = zero-mul (256 ^ n) in
    ap (λ (b : ℕ). b * 256 ^ n + big_from (suc i) n xs) (h i) ∙ omega (arith, rest, none)

blank_last : (page : List ℕ) → is_zeros page ≡ true → last_page_of page ≡ 0
blank_last page h = zero_from 4 0 (drop 32 page) (λ k. get_or-drop 32 page k 0 ∙ byte_none page (32 + k) h)

-- they leave what is known of their set
blank_leaves : (last : ℕ) (page : List ℕ) (id : PageId) → is_zeros page ≡ true → last_by last (header_of page id) page ≡ Ok last
unfolding header_of
blank_leaves last page id h = ap (λ (b : Bool). last_by last (cond b (Ok empty_header) (judged (first_fault (fields page id)) (header_in page))) page) h

-- ---- by the kind of a page

by_kind : (k : PageKind) (last : ℕ) (h : Result Header NotAPage) (page : List ℕ) → IsOfKind k h → last_by last h page ≡ last_by_kind last k page
by_kind k last (Ok h) page e = ap (λ (x : PageKind). last_by_kind last x page) e
by_kind k last (Err f) page e = absurd e

heap_counts : (last given : ℕ) → header_allowed last given ≡ true → last_of_heap last ≡ Ok last
heap_counts last given h =
    let f : Bool → Result ℕ NotAPage = λ (b : Bool). cond b (Ok last) (Err (not_at last_page_at)) in
    ap f (and_parts (nat_lt last (2 ^ 32 - 1)) (nat_le given 31) h).0

index_counts : (next : ℕ) → 3 ≤ next → next < 2 ^ 32 - 1 → last_of_index next ≡ Ok (next - 1)
index_counts next from to =
    let f : Bool → Result ℕ NotAPage = λ (b : Bool). cond b (Ok (next - 1)) (Err (not_at next_at)) in
    ap f (and_from (nat_le 3 next) (nat_lt next (2 ^ 32 - 1)) (le-leb 3 next from) (lt-ltb next (2 ^ 32 - 1) to))

-- ---- the page sets of a table

-- the header page counts the pages up to the last one, which leave that as it is; behind it all is zeros
pub record SetIsCounted (at : Images) (set : ℕ) : Type 0 where
  pub last : ℕ
  pub counts : last_behind 0 (page_of set 0) (at (page_of set 0)) ≡ Ok last
  pub inner : (n most : ℕ) → 1 ≤ n → n ≤ last → last_by most (header_of (at (page_of set n)) (page_of set n)) (at (page_of set n)) ≡ Ok most
  pub rest : (n : ℕ) → last < n → is_zeros (at (page_of set n)) ≡ true

no_heap : (at : Images) (table : ℕ) → IsHeap at table → is_zeros (at (heap_page table 0)) ≡ true → SetIsCounted at (heap_set table)
no_heap at table h blank =
    let none : heap_last at table ≡ 0 = blank_last (at (heap_page table 0)) blank in
    record {
      last = 0;
      counts = blank_leaves 0 (at (heap_page table 0)) (heap_page table 0) blank;
      inner = λ n most one few. absurd (let never : ⊥ = omega (arith, one, few) in never);
      rest = λ n lt. h.rest n (omega (arith, none, lt));
    }

some_heap : (at : Images) (table : ℕ) → IsHeap at table → IsHeapHeader (heap_page table 0) (at (heap_page table 0)) → SetIsCounted at (heap_set table)
some_heap at table h header =
    record {
      last = heap_last at table;
      counts = by_kind kind.HeapHeader 0 (header_of (at (heap_page table 0)) (heap_page table 0)) (at (heap_page table 0)) header.kind_is ∙ heap_counts (heap_last at table) (given_of (at (heap_page table 0))) header.fields;
      inner = λ n most one few. by_kind kind.Heap most (header_of (at (heap_page table n)) (heap_page table n)) (at (heap_page table n)) (h.pages n one few).kind_is;
      rest = h.rest;
    }

heap_is_counted : (at : Images) (table : ℕ) → IsHeap at table → SetIsCounted at (heap_set table)
heap_is_counted at table h =
    elim h.header as (λ _. SetIsCounted at (heap_set table)) [
      | inl blank ↦ no_heap at table h blank
      | inr header ↦ some_heap at table h header
    ]

node_leaves : (most : ℕ) (id : PageId) (page : List ℕ) → IsNodePage id page → last_by most (header_of page id) page ≡ Ok most
node_leaves most id page h =
    elim h.kind_is as (λ _. last_by most (header_of page id) page ≡ Ok most) [
      | inl branch ↦ by_kind kind.Branch most (header_of page id) page branch.0
      | inr leaf ↦ by_kind kind.Leaf most (header_of page id) page leaf
    ]

some_index : (at : Images) (table : ℕ) → AreIndexPages at table → SetIsCounted at (index_set table)
some_index at table h =
    let from = h.header.next_from in
    record {
      last = index_next at table - 1;
      counts = by_kind kind.IndexHeader 0 (header_of (at (index_page table 0)) (index_page table 0)) (at (index_page table 0)) h.header.kind_is ∙ index_counts (index_next at table) h.header.next_from h.header.next_to;
      inner = λ n most one few. node_leaves most (index_page table n) (at (index_page table n)) (h.pages n one (omega (arith, from, few)));
      rest = λ n lt. h.rest n (omega (arith, lt));
    }

no_index : (at : Images) (table : ℕ) → HasNoIndex at table → SetIsCounted at (index_set table)
no_index at table h = record {
  last = 0;
  counts = blank_leaves 0 (at (index_page table 0)) (index_page table 0) (h.zeros 0);
  inner = λ n most one few. absurd (let never : ⊥ = omega (arith, one, few) in never);
  rest = λ n lt. h.zeros n;
}

index_is_counted : (at : Images) (records : List LogRecord) (table : ℕ) → HasNoIndex at table ⊎ IsWholeIndex at records table → SetIsCounted at (index_set table)
index_is_counted at records table (inl none) = no_index at table none
index_is_counted at records table (inr whole) = some_index at table whole.pages

of_table : (at : Images) (records : List LogRecord) (table : ℕ) (id : PageId) → IsWholeTable at records table → IsOfTable table id → SetIsCounted at id.set
of_table at records table id h (inl e) = subst (SetIsCounted at) (sym e) (heap_is_counted at table h.heap)
of_table at records table id h (inr e) = subst (SetIsCounted at) (sym e) (index_is_counted at records table h.index)

pub set_is_counted : (c : Contents) (logs : List Log) (id : PageId) → IsSoundNow c logs → IsSet id.set → SetIsCounted (last_images logs) id.set
set_is_counted c logs id h is =
    let t = table_of id is in
    of_table (last_images logs) (merged logs) t.0 id (h.sound.tables.tables t.0 t.1) t.2

-- ---- a page of version 1

is_touched : DiskLaws → (c : Contents) (logs : List Log) (id : PageId) → IsSoundNow c logs → is_old (page_at c.pages id) ≡ true → list_any (touches id) (merged logs) ≡ true
is_touched k c logs id h old =
    elim (cases_Bool (list_any (touches id) (merged logs))) as (λ _. list_any (touches id) (merged logs) ≡ true) [
      | inl e ↦ e
      | inr none ↦ absurd (both_ways (is_old (page_at c.pages id)) (never_written k c logs id h none).1 old)
    ]

-- isn't zeros in the version that is written
old_some : DiskLaws → (c : Contents) (logs : List Log) (id : PageId) → IsSoundNow c logs → IsLast c logs id → is_old (page_at c.pages id) ≡ true → is_zeros (last_images logs id) ≡ true → ⊥
old_some k c logs id h last old blank =
    let two : 2 ≡ 0 =
    sym (version_renewed (page_at c.pages id) (old_page k c logs id h old).whole) ∙ ap (λ (p : List ℕ). slice_index p 5) (sym (current_old (page_at c.pages id) old) ∙ last) ∙ byte_none (last_images logs id) 5 blank in
    let never : ⊥ = omega (arith, two) in
    never

pub old_is_counted : DiskLaws → OldIsCounted
old_is_counted k c logs id h last old =
    let is = touched_set (merged logs) id (records_are k c logs h.sound).0 (is_touched k c logs id h old) in
    let s = set_is_counted c logs id h is in
    record {
      set_from = is.from;
      set_to = is.to;
      last = s.last;
      counts = s.counts;
      within = elim (cases_lt s.last id.number) as (λ _. id.number ≤ s.last) [
        | inl past ↦ absurd (old_some k c logs id h last old (s.rest id.number past))
        | inr le ↦ le
      ];
    }

-- ---- the pages of the disk

abbrev pub NumberOfPart : Type 0
NumberOfPart = (page : List ℕ) (at width : ℕ) → number_in page at width ≡ big_number width (part at width page)

number_same : RenewalLaws → NumberOfPart → (page : List ℕ) → IsOldPage page → number_in (renewed page) 32 4 ≡ number_in page 32 4
number_same k number page old = number (renewed page) 32 4 ∙ ap (big_number 4) (k.kept page 32 4 old.whole (inr (omega arith), inr (omega arith))) ∙ sym (number page 32 4)

next_same : RenewalLaws → NumberOfPart → (page : List ℕ) → IsOldPage page → next_page_of (renewed page) ≡ next_page_of page
unfolding next_page_of
next_same k number page old = number_same k number page old

kind_same : (last : ℕ) (k : PageKind) (p q : List ℕ) → last_page_of p ≡ last_page_of q → next_page_of p ≡ next_page_of q → last_by_kind last k p ≡ last_by_kind last k q
kind_same last kind.HeapHeader p q e n = ap last_of_heap e
kind_same last kind.IndexHeader p q e n = ap last_of_index n
kind_same last kind.Empty p q e n = refl
kind_same last kind.Heap p q e n = refl
kind_same last kind.Branch p q e n = refl
kind_same last kind.Leaf p q e n = refl

count_same : (last : ℕ) (h : Result Header NotAPage) (p q : List ℕ) → last_page_of p ≡ last_page_of q → next_page_of p ≡ next_page_of q → last_by last h p ≡ last_by last h q
count_same last (Ok h) p q e n = kind_same last h.kind p q e n
count_same last (Err f) p q e n = refl

renewed_same : RenewalLaws → NumberOfPart → (last : ℕ) (id : PageId) (page : List ℕ) → IsOldPage page → last_behind last id (renewed page) ≡ last_behind last id page
renewed_same k number last id page old =
    ap (λ (h : Result Header NotAPage). last_by (last_before last id) h (renewed page)) (k.header page id old.whole old.old old.number)
    ∙ count_same (last_before last id) (header_of page id) (renewed page) page (number_same k number page old) (next_same k number page old)

-- of either version they count the same
pub disk_counts : DiskLaws → NumberOfPart → (c : Contents) (logs : List Log) (id : PageId) (last : ℕ) → IsSoundNow c logs → IsLast c logs id → last_behind last id (page_at c.pages id) ≡ last_behind last id (last_images logs id)
disk_counts k number c logs id last h is =
    elim (cases_Bool (is_old (page_at c.pages id))) as (λ _. last_behind last id (page_at c.pages id) ≡ last_behind last id (last_images logs id)) [
      | inl e ↦ sym (renewed_same k.bringing.renewal number last id (page_at c.pages id) (old_page k c logs id h e)) ∙ ap (last_behind last id) (sym (current_old (page_at c.pages id) e) ∙ is)
      | inr e ↦ ap (last_behind last id) (sym (current_new (page_at c.pages id) e) ∙ is)
    ]
