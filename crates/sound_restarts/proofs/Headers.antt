-- The header of a page as all records leave it may be the page's.
use Rattle.std.proofs.Common.{◌≡◌, ℕ, zero, suc, ◌+◌, ◌-◌, ◌*◌, ◌/◌, ◌%◌, ◌<◌, ◌≤◌, Bool, true, false, cond, List, [], ◌∷◌, Result, Ok, Err, refl, sym, ap, subst, ◌∙◌, inl, inr, arith}
use Rattle.std.specs.Prelude.{◌⊎◌, ◌||◌}
use Rattle.std.specs.List.{list_any, AllByRecursion}
use Rattle.std.proofs.lemmas.Bool.{cases_lt, or_cases, or_parts, cases_Bool}
use Rattle.ds_base.specs.Ids.{IsTable}
use Rattle.ds_base.specs.Pages.{same_page, heap_set, index_set, heap_page, index_page}
use Rattle.ds_base.specs.declared.names.PageId.{PageId}
use Rattle.ds_model.specs.RecordBytes.{IsAllowed, PatchIsAllowed, BodyIsAllowed}
use Rattle.ds_model.specs.declared.log.LogRecord.{LogRecord}
use Rattle.ds_model.specs.declared.log.Body.{Body}
use Rattle.ds_model.specs.declared.log.Body.TheVariants as body
use Rattle.ds_model.specs.declared.log.Version.{Version}
use Rattle.page_chain.specs.Chains.{changes_of, touches, version_from, images_of, LeavesOthers}
use Rattle.page_format.specs.Header.{is_zeros, header_of, first_fault, fields, header_in, empty_header, judged}
use Rattle.page_format.specs.declared.header.Header.{Header}
use Rattle.page_format.specs.declared.header.NotAPage.{NotAPage}
use Rattle.page_format.specs.declared.header.PageKind.{PageKind}
use Rattle.page_format.specs.declared.header.PageKind.TheVariants as kind
use Rattle.page_format.specs.declared.patch.Patch.{Patch}
use Rattle.page_images.specs.Images.{Images, zeros}
use Rattle.sound_disk.specs.Heaps.{IsHeap, heap_last}
use Rattle.sound_disk.specs.Indexes.{AreIndexPages, IsNodePage, index_next}
use Rattle.sound_disk.specs.Layouts.{IsOfKind}
use Rattle.sound_disk.specs.Tables.{HasNoIndex, IsWholeIndex, IsWholeTable, AreWholeTables}
use Rattle.sound_disk.specs.Versions.{is_page}
use Rattle.sound_restarts.proofs.Page_writes.{same_name}

-- ---- the pages of a table

of_kind : (k : PageKind) (h : Result Header NotAPage) → IsOfKind k h → is_page h ≡ true
of_kind k (Ok h) e = refl
of_kind k (Err f) e = absurd e

of_zeros : (page : List ℕ) (id : PageId) → is_zeros page ≡ true → is_page (header_of page id) ≡ true
unfolding header_of
of_zeros page id h = ap (λ (b : Bool). is_page (cond b (Ok empty_header) (judged (first_fault (fields page id)) (header_in page)))) h

heap_header : (at : Images) (table n : ℕ) → IsHeap at table → is_page (header_of (at (heap_page table n)) (heap_page table n)) ≡ true
heap_header at table zero h =
    elim h.header [
      | inl blank ↦ of_zeros (at (heap_page table 0)) (heap_page table 0) blank
      | inr header ↦ of_kind kind.HeapHeader (header_of (at (heap_page table 0)) (heap_page table 0)) header.kind_is
    ]
heap_header at table (suc n) h =
    elim (cases_lt (heap_last at table) (suc n)) as (λ _. is_page (header_of (at (heap_page table (suc n))) (heap_page table (suc n))) ≡ true) [
      | inl past ↦ of_zeros (at (heap_page table (suc n))) (heap_page table (suc n)) (h.rest (suc n) past)
      | inr le ↦ of_kind kind.Heap (header_of (at (heap_page table (suc n))) (heap_page table (suc n))) (h.pages (suc n) (omega arith) le).kind_is
    ]

node_header : (id : PageId) (page : List ℕ) → IsNodePage id page → is_page (header_of page id) ≡ true
node_header id page h =
    elim h.kind_is [
      | inl branch ↦ of_kind kind.Branch (header_of page id) branch.0
      | inr leaf ↦ of_kind kind.Leaf (header_of page id) leaf
    ]

index_header : (at : Images) (table n : ℕ) → AreIndexPages at table → is_page (header_of (at (index_page table n)) (index_page table n)) ≡ true
index_header at table zero h = of_kind kind.IndexHeader (header_of (at (index_page table 0)) (index_page table 0)) h.header.kind_is
index_header at table (suc n) h =
    elim (cases_lt (suc n) (index_next at table)) as (λ _. is_page (header_of (at (index_page table (suc n))) (index_page table (suc n))) ≡ true) [
      | inl lt ↦ node_header (index_page table (suc n)) (at (index_page table (suc n))) (h.pages (suc n) (omega arith) lt)
      | inr past ↦ of_zeros (at (index_page table (suc n))) (index_page table (suc n)) (h.rest (suc n) past)
    ]

either_index : (at : Images) (records : List LogRecord) (table n : ℕ) → HasNoIndex at table ⊎ IsWholeIndex at records table → is_page (header_of (at (index_page table n)) (index_page table n)) ≡ true
either_index at records table n (inl none) = of_zeros (at (index_page table n)) (index_page table n) (none.zeros n)
either_index at records table n (inr whole) = index_header at table n whole.pages

-- ---- of which table a page is

abbrev pub IsOfTable : ℕ → PageId → Type 0
IsOfTable table id = (id.set ≡ heap_set table) ⊎ (id.set ≡ index_set table)

abbrev id_in : ℕ → ℕ → PageId
id_in set number = record { set = set; number = number }

has_header : (at : Images) (records : List LogRecord) (table : ℕ) (id : PageId) → IsWholeTable at records table → IsOfTable table id → is_page (header_of (at id) id) ≡ true
has_header at records table id whole (inl e) =
    subst (λ (q : PageId). is_page (header_of (at q) q) ≡ true) (ap (λ (s : ℕ). id_in s id.number) (sym e)) (heap_header at table id.number whole.heap)
has_header at records table id whole (inr e) =
    subst (λ (q : PageId). is_page (header_of (at q) q) ≡ true) (ap (λ (s : ℕ). id_in s id.number) (sym e)) (either_index at records table id.number whole.index)

-- the set of a page of a table
pub record IsSet (n : ℕ) : Type 0 where
  pub from : 1 ≤ n
  pub to : n ≤ 128

halved : (n t r : ℕ) → n + 1 ≡ 2 * t + r → r < 2 → 1 ≤ n → n ≤ 128 → IsTable t × ((n ≡ 2 * t - 1) ⊎ (n ≡ 2 * t))
halved n t r e lt from to = (
  (omega arith, omega arith),
  elim (cases_lt r 1) as (λ _. (n ≡ 2 * t - 1) ⊎ (n ≡ 2 * t)) [
    | inl none ↦ inl (omega arith)
    | inr one ↦ inr (omega arith)
  ],
)

pub table_of : (id : PageId) → IsSet id.set → (t : ℕ) × IsTable t × IsOfTable t id
table_of id h =
    let from = h.from in
    let to = h.to in
    let e : id.set + 1 ≡ 2 * ((id.set + 1) / 2) + (id.set + 1) % 2 = omega arith in
    let lt : (id.set + 1) % 2 < 2 = omega arith in
    let p = halved id.set ((id.set + 1) / 2) ((id.set + 1) % 2) e lt from to in
    ((id.set + 1) / 2, p.0, p.1)

patch_set : (ps : List Patch) (id : PageId) → AllByRecursion PatchIsAllowed ps → list_any (λ (p : Patch). same_page p.page id) ps ≡ true → IsSet id.set
patch_set [] id allowed h = absurd cc
patch_set (p ∷ ps) id allowed h =
    elim (or_cases (same_page p.page id) (list_any (λ (q : Patch). same_page q.page id) ps) h) as (λ _. IsSet id.set) [
      | inl e ↦ let same = same_name p.page id e in subst (λ (q : PageId). IsSet q.set) same (record { from = allowed.0.set_from; to = allowed.0.set_to })
      | inr more ↦ patch_set ps id allowed.1 more
    ]

heap_is_set : (table n : ℕ) (id : PageId) → IsTable table → (same_page (heap_page table n) id || false) ≡ true → IsSet id.set
heap_is_set table n id h e =
    elim (or_cases (same_page (heap_page table n) id) false e) as (λ _. IsSet id.set) [
      | inl s ↦ let lo = h.0 in let hi = h.1 in subst (λ (q : PageId). IsSet q.set) (same_name (heap_page table n) id s) (record { from = omega (arith, lo, hi); to = omega (arith, lo, hi) })
      | inr s ↦ absurd cc
    ]

body_set : (v : Version) (b : Body) (id : PageId) → BodyIsAllowed v b → list_any (λ (p : Patch). same_page p.page id) (changes_of b) ≡ true → IsSet id.set
body_set v (body.RowChange c) id h e = heap_is_set c.table c.place.page id h.table_in e
body_set v (body.Compensation c undone) id h e = heap_is_set c.table c.place.page id h.0.table_in e
body_set v (body.System ps) id h e = patch_set ps id h.each e
body_set v body.Commit id h e = absurd cc
body_set v body.Ended id h e = absurd cc
body_set v (body.Checkpoint offset) id h e = absurd cc
body_set v body.RestartEnd id h e = absurd cc

pub touched_set : (rs : List LogRecord) (id : PageId) → AllByRecursion IsAllowed rs → list_any (touches id) rs ≡ true → IsSet id.set
touched_set [] id allowed h = absurd cc
touched_set (r ∷ rs) id allowed h =
    elim (or_cases (touches id r) (list_any (touches id) rs) h) as (λ _. IsSet id.set) [
      | inl e ↦ body_set r.version r.body id allowed.0.body_is e
      | inr more ↦ touched_set rs id allowed.1 more
    ]

pub untouched : LeavesOthers → (rs : List LogRecord) (id : PageId) (page : List ℕ) → list_any (touches id) rs ≡ false → version_from id page rs ≡ page
untouched others [] id page h = refl
untouched others (r ∷ rs) id page h =
    let p = or_parts (touches id r) (list_any (touches id) rs) h in
    ap (λ (q : List ℕ). version_from id q rs) (others r id page p.0) ∙ untouched others rs id page p.1

-- ---- any page

pub last_header : LeavesOthers → ((id : PageId) → header_of zeros id ≡ Ok empty_header) → (records : List LogRecord) (id : PageId) → AllByRecursion IsAllowed records → AreWholeTables records
    → is_page (header_of (images_of records id) id) ≡ true
last_header others empty records id allowed h =
    elim (cases_Bool (list_any (touches id) records)) as (λ _. is_page (header_of (images_of records id) id) ≡ true) [
      | inl e ↦ let t = table_of id (touched_set records id allowed e) in has_header (images_of records) records t.0 id (h.tables t.0 t.1) t.2
      | inr e ↦
          subst (λ (p : List ℕ). is_page (header_of p id) ≡ true) (sym (untouched others records id zeros e)) (ap (λ (x : Result Header NotAPage). is_page x) (empty id))
    ]
