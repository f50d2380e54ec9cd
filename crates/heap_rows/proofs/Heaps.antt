-- How many slots the pages of a heap have.
use Rattle.std.proofs.Common.{◌≡◌, ◌⊎◌, inl, inr, ℕ, zero, suc, ◌+◌, ◌*◌, ◌^◌, ◌<◌, ◌≤◌, Bool, true, false, List, [], ◌∷◌, take, drop, not, Option, Some, None, Ok, refl, sym, ap, ◌∙◌, arith}
use Rattle.std.specs.Prelude.{◌==◌, nat_le, if◌then◌else◌, slice_index}
use Rattle.std.specs.Str.{bytes_eq}
use Rattle.std.proofs.Math.Nat.{zero-mul}
use Rattle.std.proofs.lemmas.List.{get_or-drop}
use Rattle.byteorder.specs.Endian.{big_from}
use Rattle.ds_base.specs.Pages.{heap_page}
use Rattle.ds_base.specs.declared.names.PageId.{PageId}
use Rattle.ds_base.specs.declared.names.Place.{Place}
use Rattle.page_format.specs.Fields.{number_in}
use Rattle.page_format.specs.Header.{may_have, is_version, mark, most, is_zeros, first_fault, fields, header_in, empty_header, judged, header_of, slots_per_page}
use Rattle.page_format.specs.declared.header.Header.{Header}
use Rattle.page_format.specs.declared.header.PageKind.TheVariants as kind
use Rattle.page_images.specs.Images.{Images}
use Rattle.sound_disk.specs.Layouts.{IsOfKind, count_in}
use Rattle.sound_disk.specs.Heaps.{IsHeapHeader, IsRowPage, IsHeap}
use Rattle.sound_disk.specs.Rows_there.{IsPlaceOf}
use Rattle.table_pages.proofs.Booleans.{and_left, and_right, equal, le_of}
use Rattle.table_pages.proofs.Kind_tests.{count_within}

-- ---- pages without slots

byte_none : (page : List ℕ) (k : ℕ) → is_zeros page ≡ true → slice_index page k ≡ 0
byte_none [] zero h = refl
byte_none [] (suc k) h = refl
byte_none (x ∷ xs) zero h = equal x 0 (and_left (x == 0) (is_zeros xs) h)
byte_none (x ∷ xs) (suc k) h = byte_none xs k (and_right (x == 0) (is_zeros xs) h)

zero_from : (n i : ℕ) (xs : List ℕ) → ((k : ℕ) → slice_index xs k ≡ 0) → big_from i n xs ≡ 0
zero_from zero i xs h = refl
zero_from (suc n) i xs h =
    let rest = zero_from n (suc i) xs h in
    let none = zero-mul (256 ^ n) in
    ap (λ (b : ℕ). b * 256 ^ n + big_from (suc i) n xs) (h i) ∙ omega (arith, rest, none)

pub blank_number : (page : List ℕ) (at width : ℕ) → is_zeros page ≡ true → number_in page at width ≡ 0
blank_number page at width h = zero_from width 0 (drop at page) (λ k. get_or-drop at page k 0 ∙ byte_none page (at + k) h)

pub blank_count : (page : List ℕ) → is_zeros page ≡ true → count_in page ≡ 0
blank_count page h = blank_number page 26 2 h

none_first : (b : Bool) (at : ℕ) (rest : Option ℕ) → (if b then rest else Some at) ≡ None → b ≡ true
none_first true at rest h = refl
none_first false at rest h = absurd cc

none_rest : (b : Bool) (at : ℕ) (rest : Option ℕ) → (if b then rest else Some at) ≡ None → rest ≡ None
none_rest true at rest h = h
none_rest false at rest h = absurd cc

passed : (f : ℕ × Bool) (fs : List (ℕ × Bool)) → first_fault (f ∷ fs) ≡ None → first_fault fs ≡ None
passed f fs h = none_rest f.1 f.0 (first_fault fs) h

passes : (f : ℕ × Bool) (fs : List (ℕ × Bool)) → first_fault (f ∷ fs) ≡ None → f.1 ≡ true
passes f fs h = none_first f.1 f.0 (first_fault fs) h

seventh : (a b c d e f g : ℕ × Bool) → first_fault (a ∷ b ∷ c ∷ d ∷ e ∷ f ∷ g ∷ []) ≡ None → g.1 ≡ true
seventh a b c d e f g h =
    passes g [] (passed f (g ∷ []) (passed e (f ∷ g ∷ []) (passed d (e ∷ f ∷ g ∷ []) (passed c (d ∷ e ∷ f ∷ g ∷ []) (passed b (c ∷ d ∷ e ∷ f ∷ g ∷ []) (passed a (b ∷ c ∷ d ∷ e ∷ f ∷ g ∷ []) h))))))

count_fits : (page : List ℕ) (id : PageId) → first_fault (fields page id) ≡ None → nat_le (header_in page).count (most (header_in page).kind) ≡ true
count_fits page id h =
    seventh (0, bytes_eq (take 4 page) mark) (4, may_have id (header_in page).kind) (5, is_version (slice_index page 5)) (6, number_in page 6 2 == id.set) (8, number_in page 8 4 == id.number)
    (16, not ((header_in page).lrsn == 0)) (26, nat_le (header_in page).count (most (header_in page).kind)) h

count_when : (z : Bool) (fault : Option ℕ) (h : Header) → (fault ≡ None → nat_le h.count (most h.kind) ≡ true) → IsOfKind kind.HeapHeader (if z then Ok empty_header else judged fault h) → h.count ≡ 0
count_when true fault h fits is = absurd cc
count_when false None h fits is =
    let le : h.count ≤ 0 = le_of h.count 0 (ap (λ k. nat_le h.count (most k)) (sym is) ∙ fits refl) in omega (arith, le)
count_when false (Some at) h fits is = absurd is

header_count : (page : List ℕ) (id : PageId) → IsOfKind kind.HeapHeader (header_of page id) → count_in page ≡ 0
unfolding header_of
header_count page id is = count_when (is_zeros page) (first_fault (fields page id)) (header_in page) (count_fits page id) is

pub first_count : (page : List ℕ) (id : PageId) → (is_zeros page ≡ true) ⊎ IsHeapHeader id page → count_in page ≡ 0
first_count page id (inl z) = blank_count page z
first_count page id (inr h) = header_count page id h.kind_is

-- ---- slots of a page of rows

some_slots : slots_per_page ≡ 0 → ⊥
some_slots h = absurd (omega (arith, h))

pub within : (id : PageId) (page : List ℕ) → IsRowPage id page → count_in page ≤ slots_per_page
within id page h = count_within kind.Heap page id some_slots h.kind_is

-- ---- the heap

pub no_slot : (at : Images) (table key : ℕ) (place : Place) → IsPlaceOf at table key place → count_in (at (heap_page table place.page)) ≡ 0 → ⊥
no_slot at table key place h e = let lt = h.given in absurd (omega (arith, lt, e))

pub in_first : (at : Images) (table p : ℕ) → IsHeap at table → p < 1 → count_in (at (heap_page table p)) ≡ 0
in_first at table p h lt =
    let z : p ≡ 0 = omega (arith, lt) in
    ap (λ (m : ℕ). count_in (at (heap_page table m))) z ∙ first_count (at (heap_page table 0)) (heap_page table 0) h.header
