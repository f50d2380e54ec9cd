-- The tests of a heap's pages.
use Rattle.std.proofs.Common.{◌≡◌, ◌↔◌, ℕ, zero, suc, ◌+◌, ◌<◌, Bool, true, false, ◌&&◌, List, drop, is_none, refl, sym, ap, subst, ◌∙◌, arith}
use Rattle.std.specs.Prelude.{◌==◌, nat_le, nat_lt, IsTrue}
use Rattle.ds_base.specs.declared.names.PageId.{PageId}
use Rattle.page_format.specs.Header.{slots_per_page, is_zeros, header_of}
use Rattle.page_format.specs.declared.header.PageKind.TheVariants as kind
use Rattle.heap_space.specs.Layout.{given_at, slot_at}
use Rattle.heap_space.specs.Next.{last_page_of, given_of, header_allowed}
use Rattle.heap_space.specs.Slots.{content, slot_in, fault_in}
use Rattle.sound_disk.specs.Layouts.{count_in, has_clean_header}
use Rattle.sound_disk.specs.Heaps.{is_given, IsHeapHeader, IsSlot, IsRowPage}
use Rattle.table_pages.specs.Kinds.{has_kind, both_or_neither}
use Rattle.table_pages.specs.Heaps.{is_heap_header, slot_fits, slots_fit, is_row_page}
use Rattle.table_pages.proofs.Booleans.{decide, and_left, and_right, and_both, none_of, of_le, both_same, same_both, below, last_of}
use Rattle.table_pages.proofs.Kind_tests.{kind_is, kind_has, count_within}

-- ---- the header page

abbrev kind_test : PageId → List ℕ → Bool
kind_test id page = has_kind kind.HeapHeader (header_of page id)

abbrev fields_test : List ℕ → Bool
fields_test page = header_allowed (last_page_of page) (given_of page)

abbrev both_test : List ℕ → Bool
both_test page = both_or_neither (last_page_of page == 0) (given_of page == 0)

abbrev rest_test : List ℕ → Bool
rest_test page = is_zeros (drop (given_at + 2) page)

header_right : (id : PageId) (page : List ℕ) → is_heap_header id page ≡ true → IsHeapHeader id page
header_right id page h =
    let a = and_right (kind_test id page) (has_clean_header page && (fields_test page && (both_test page && rest_test page))) h in
    let b = and_right (has_clean_header page) (fields_test page && (both_test page && rest_test page)) a in
    let c = and_right (fields_test page) (both_test page && rest_test page) b in
    record {
      kind_is = kind_is kind.HeapHeader (header_of page id) (and_left (kind_test id page) (has_clean_header page && (fields_test page && (both_test page && rest_test page))) h);
      clean = and_left (has_clean_header page) (fields_test page && (both_test page && rest_test page)) a;
      fields = and_left (fields_test page) (both_test page && rest_test page) b;
      both = both_same (last_page_of page == 0) (given_of page == 0) (and_left (both_test page) (rest_test page) c);
      rest = and_right (both_test page) (rest_test page) c;
    }

right_header : (id : PageId) (page : List ℕ) → IsHeapHeader id page → is_heap_header id page ≡ true
right_header id page h =
    and_both (kind_test id page) _ (kind_has kind.HeapHeader (header_of page id) h.kind_is)
    (and_both (has_clean_header page) _ h.clean
    (and_both (fields_test page) _ h.fields
    (and_both (both_test page) (rest_test page) (same_both (last_page_of page == 0) (given_of page == 0) h.both) h.rest)))

pub header_told : (id : PageId) (page : List ℕ) (b : Bool) → b ≡ is_heap_header id page → IsTrue b ↔ IsHeapHeader id page
header_told id page b e = (λ t. header_right id page (sym e ∙ t), λ h. e ∙ right_header id page h)

-- ---- a page of rows

slot_right : (page : List ℕ) (s : ℕ) → slot_fits page s ≡ true → IsSlot page s
slot_right page s h = record {
  fault_none = none_of (fault_in page s) (and_left (is_none (fault_in page s)) (is_given (content (slot_in page s))) h);
  given = and_right (is_none (fault_in page s)) (is_given (content (slot_in page s))) h;
}

right_slot : (page : List ℕ) (s : ℕ) → IsSlot page s → slot_fits page s ≡ true
right_slot page s h = and_both (is_none (fault_in page s)) (is_given (content (slot_in page s))) (ap is_none h.fault_none) h.given

slots_right : (page : List ℕ) (n : ℕ) → slots_fit page n ≡ true → (s : ℕ) → s < n → IsSlot page s
slots_right page zero h s lt = absurd (omega (arith, lt))
slots_right page (suc n) h s lt =
    decide (nat_lt s n) (IsSlot page s)
    (λ e. slots_right page n (and_left (slots_fit page n) (slot_fits page n) h) s (below s n e))
    (λ e. subst (λ (m : ℕ). IsSlot page m) (sym (last_of s n lt e)) (slot_right page n (and_right (slots_fit page n) (slot_fits page n) h)))

right_slots : (page : List ℕ) (n : ℕ) → ((s : ℕ) → s < n → IsSlot page s) → slots_fit page n ≡ true
right_slots page zero h = refl
right_slots page (suc n) h =
    and_both (slots_fit page n) (slot_fits page n)
    (right_slots page n (λ s lt. h s (omega (arith, lt))))
    (right_slot page n (h n (omega arith)))

pub slots_misfit : (page : List ℕ) (n s : ℕ) → s < n → slot_fits page s ≡ false → false ≡ slots_fit page n
slots_misfit page n s lt e =
    decide (slots_fit page n) (false ≡ slots_fit page n)
    (λ t. let is = right_slot page s (slots_right page n t s lt) in absurd (cc (is, e)))
    (λ f. sym f)

abbrev row_kind : PageId → List ℕ → Bool
row_kind id page = has_kind kind.Heap (header_of page id)

abbrev few : List ℕ → Bool
few page = nat_le (count_in page) slots_per_page

abbrev end_test : List ℕ → Bool
end_test page = is_zeros (drop (slot_at (count_in page)) page)

rows_right : (id : PageId) (page : List ℕ) → is_row_page id page ≡ true → IsRowPage id page
rows_right id page h =
    let a = and_right (row_kind id page) (has_clean_header page && (few page && (slots_fit page (count_in page) && end_test page))) h in
    let b = and_right (has_clean_header page) (few page && (slots_fit page (count_in page) && end_test page)) a in
    let c = and_right (few page) (slots_fit page (count_in page) && end_test page) b in
    record {
      kind_is = kind_is kind.Heap (header_of page id) (and_left (row_kind id page) (has_clean_header page && (few page && (slots_fit page (count_in page) && end_test page))) h);
      clean = and_left (has_clean_header page) (few page && (slots_fit page (count_in page) && end_test page)) a;
      slots = slots_right page (count_in page) (and_left (slots_fit page (count_in page)) (end_test page) c);
      rest = and_right (slots_fit page (count_in page)) (end_test page) c;
    }

some_slots : slots_per_page ≡ 0 → ⊥
some_slots h = absurd (omega (arith, h))

right_rows : (id : PageId) (page : List ℕ) → IsRowPage id page → is_row_page id page ≡ true
right_rows id page h =
    and_both (row_kind id page) _ (kind_has kind.Heap (header_of page id) h.kind_is)
    (and_both (has_clean_header page) _ h.clean
    (and_both (few page) _ (of_le (count_in page) slots_per_page (count_within kind.Heap page id some_slots h.kind_is))
    (and_both (slots_fit page (count_in page)) (end_test page) (right_slots page (count_in page) h.slots) h.rest)))

pub rows_told : (id : PageId) (page : List ℕ) (b : Bool) → b ≡ is_row_page id page → IsTrue b ↔ IsRowPage id page
rows_told id page b e = (λ t. rows_right id page (sym e ∙ t), λ h. e ∙ right_rows id page h)
