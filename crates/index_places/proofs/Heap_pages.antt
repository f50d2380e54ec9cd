-- The pages of a heap.
use Rattle.std.proofs.Common.{◌≡◌, ℕ, ◌<◌, ◌≤◌, List, Option, Some, sym, ap, subst, ◌∙◌, arith, inl, inr}
use Rattle.std.proofs.lemmas.Bool.{cases_lt}
use Rattle.ds_base.specs.Pages.{heap_page}
use Rattle.ds_base.specs.declared.names.PageId.{PageId}
use Rattle.ds_model.specs.declared.log.LogRecord.{LogRecord}
use Rattle.ds_model.specs.Rows.{Rows}
use Rattle.page_images.specs.Images.{Images}
use Rattle.sound_disk.specs.Layouts.{count_in}
use Rattle.sound_disk.specs.Heaps.{heap_last}
use Rattle.sound_disk.specs.Rows_there.{row_after}
use Rattle.table_images.specs.Stands.{Stands, StandsAt, given_by}
use Rattle.heap_rows.specs.Maps.{rows_in}
use Rattle.heap_rows.specs.Rows_left.{PageHas}
use Rattle.heap_rows.proofs.Heaps.{blank_count, first_count}
use Rattle.index_places.specs.Whole.{IsFirstWrong, IsRightHeapPage}
use Rattle.index_places.proofs.Orders.{Of, first_by}

-- ---- pages without slots

none_has : (row : ℕ → Option (List ℕ)) (page : List ℕ) → count_in page ≡ 0 → PageHas row page
none_has row page none s lt key e = absurd (omega (arith, none, lt))

pub outside_has : (row : ℕ → Option (List ℕ)) (last given : ℕ) (id : PageId) (page : List ℕ) → Stands last given id page → (1 ≤ id.number → id.number ≤ last → ⊥) → PageHas row page
outside_has row last given id page s out =
    elim (cases_lt id.number 1) as (λ _. PageHas row page) [
      | inl first ↦ let z : id.number ≡ 0 = omega (arith, first) in none_has row page (first_count page id (s.header z))
      | inr from ↦ elim (cases_lt last id.number) as (λ _. PageHas row page) [
        | inl behind ↦ none_has row page (blank_count page (s.rest behind))
        | inr to ↦ absurd (out from to)
      ]
    ]

-- ---- by the header page and the records

-- the tests of a page
abbrev pub HeapPasses : ℕ → ℕ → (ℕ → Option (List ℕ)) → PageId → List ℕ → Type 0
HeapPasses last given row id page = Stands last given id page × PageHas row page

page_same : (f g : ℕ → Option (List ℕ)) (page : List ℕ) → ((key : ℕ) → f key ≡ g key) → PageHas f page → PageHas g page
page_same f g page same h s lt key e = h s lt key e ∙ ap (λ (o : Option (List ℕ)). Some (key, o)) (same key)

-- the tests are by the table's header page, and by rows that are those the records left
pub record IsBy (at : Images) (records : List LogRecord) (table last given : ℕ) (rows : Rows) : Type 0 where
  pub last_is : last ≡ heap_last at table
  pub given_is : given ≡ given_by at table
  pub rows_are : (key : ℕ) → rows_in rows table key ≡ row_after records table key

right : (at : Images) (records : List LogRecord) (table last given : ℕ) (rows : Rows) → IsBy at records table last given rows → (n : ℕ) → Of (HeapPasses last given (rows_in rows table)) (heap_page table) at n → IsRightHeapPage at records table n
right at records table last given rows by n h = (
  subst (λ (m : ℕ). StandsAt at table m (given_by at table) n) by.last_is (subst (λ (g : ℕ). StandsAt at table last g n) by.given_is h.0),
  page_same (rows_in rows table) (row_after records table) (at (heap_page table n)) by.rows_are h.1,
)

tests : (at : Images) (records : List LogRecord) (table last given : ℕ) (rows : Rows) → IsBy at records table last given rows → (n : ℕ) → IsRightHeapPage at records table n → Of (HeapPasses last given (rows_in rows table)) (heap_page table) at n
tests at records table last given rows by n h = (
  subst (λ (m : ℕ). StandsAt at table m given n) (sym by.last_is) (subst (λ (g : ℕ). StandsAt at table (heap_last at table) g n) (sym by.given_is) h.0),
  page_same (row_after records table) (rows_in rows table) (at (heap_page table n)) (λ key. sym (by.rows_are key)) h.1,
)

pub first_wrong : (at : Images) (records : List LogRecord) (table last given : ℕ) (rows : Rows) (id : PageId) → IsBy at records table last given rows
    → IsFirstWrong (heap_page table) (Of (HeapPasses last given (rows_in rows table)) (heap_page table) at) id → IsFirstWrong (heap_page table) (IsRightHeapPage at records table) id
first_wrong at records table last given rows id by f =
    first_by (heap_page table) (Of (HeapPasses last given (rows_in rows table)) (heap_page table) at) (IsRightHeapPage at records table) id (right at records table last given rows by) (tests at records table last given rows by) f

-- all behind the end are zeros
pub all_right : (at : Images) (records : List LogRecord) (table last given end : ℕ) (rows : Rows) → IsBy at records table last given rows → last < end → ((g n : ℕ) → end ≤ n → StandsAt at table last g n)
    → ((n : ℕ) → n < end → Of (HeapPasses last given (rows_in rows table)) (heap_page table) at n) → (n : ℕ) → IsRightHeapPage at records table n
all_right at records table last given end rows by past rest h n =
    elim (cases_lt n end) as (λ _. IsRightHeapPage at records table n) [
      | inl less ↦ right at records table last given rows by n (h n less)
      | inr up ↦
          let stands : StandsAt at table last given n = rest given n up in
          right at records table last given rows by n (stands, outside_has (rows_in rows table) last given (heap_page table n) (at (heap_page table n)) stands (λ from to. absurd (omega (arith, to, past, up))))
    ]
