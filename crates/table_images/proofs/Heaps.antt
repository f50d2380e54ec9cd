-- The pages of a heap, and the heap.
use Rattle.std.proofs.Common.{◌≡◌, ◌⊎◌, ℕ, ◌+◌, ◌^◌, ◌<◌, ◌≤◌, Bool, true, false, List, refl, sym, ap, subst, ◌∙◌, arith, min}
use Rattle.std.specs.Prelude.{nat_lt, if◌then◌else◌}
use Rattle.std.proofs.lemmas.Bool.Decides.{nat_tests}
use Rattle.ds_base.specs.Pages.{heap_page, heap_set}
use Rattle.ds_model.specs.declared.log.LogRecord.{LogRecord}
use Rattle.page_format.specs.Header.{is_zeros}
use Rattle.page_images.specs.Images.{Images, zeros}
use Rattle.page_chain.specs.Chains.{images_of, LeavesOthers}
use Rattle.sound_disk.specs.Layouts.{count_in}
use Rattle.sound_disk.specs.Heaps.{IsHeapHeader, heap_last, IsHeap}
use Rattle.disk_versions.specs.Ends.{last_in_records, end_of}
use Rattle.table_images.specs.Stands.{StandsAt, given_by}
use Rattle.table_images.proofs.Untouched.{never_changed}

decide : (b : Bool) (P : Type 0) → (b ≡ true → P) → (b ≡ false → P) → P
decide true P f g = f refl
decide false P f g = g refl

below : (k n : ℕ) → nat_lt k n ≡ true → k < n
below k n h = grind (arith, nat_tests)

not_below : (k n : ℕ) → nat_lt k n ≡ false → n ≤ k
not_below k n h = grind (arith, nat_tests)

-- ---- the heap

abbrev Each : Images → ℕ → Type 0
Each at table = (n : ℕ) → StandsAt at table (heap_last at table) (given_by at table) n

pub heap_of : (at : Images) (table : ℕ) → Each at table → IsHeap at table
heap_of at table h = record {
  header = (h 0).header refl;
  pages = λ p from to. (h p).rows from to;
  last = λ some. (h (heap_last at table)).full some refl;
  rest = λ p behind. (h p).rest behind;
}

pub of_heap : (at : Images) (table : ℕ) → IsHeap at table → Each at table
of_heap at table h n = record {
  header = λ e. subst (λ (m : ℕ). (is_zeros (at (heap_page table m)) ≡ true) ⊎ IsHeapHeader (heap_page table m) (at (heap_page table m))) (sym e) h.header;
  rows = λ from to. h.pages n from to;
  full = λ from e. subst (λ (m : ℕ). count_in (at (heap_page table m)) ≡ given_by at table) (sym e) (h.last (subst (λ (m : ℕ). 1 ≤ m) e from));
  rest = λ behind. h.rest n behind;
}

-- a page behind the last one that is zeros is right
blank_stands : (at : Images) (table last given n : ℕ) → last < n → is_zeros (at (heap_page table n)) ≡ true → StandsAt at table last given n
blank_stands at table last given n lt e = record {
  header = λ z. absurd (omega (arith, lt, z));
  rows = λ from to. absurd (omega (arith, lt, to));
  full = λ from is. absurd (omega (arith, lt, is));
  rest = λ behind. e;
}

greater_first : (a b : ℕ) → a ≤ (if nat_lt a b then b else a)
greater_first a b = grind (arith, nat_tests)

greater_second : (a b : ℕ) → b ≤ (if nat_lt a b then b else a)
greater_second a b = grind (arith, nat_tests)

pub past_first : (a b n : ℕ) → a < 2 ^ 32 → b < 2 ^ 32 → end_of a b 0 ≤ n → a < n
past_first a b n x y le =
    let f = greater_first a b in let s = greater_second a b in
    decide (nat_lt a b) (a < n)
    (λ e. let is : end_of a b 0 ≡ min (b + 0 + 1) (2 ^ 32) = ap (λ (c : Bool). min ((if c then b else a) + 0 + 1) (2 ^ 32)) e in let up = below a b e in omega (arith, is, le, up, y))
    (λ e. let is : end_of a b 0 ≡ min (a + 0 + 1) (2 ^ 32) = ap (λ (c : Bool). min ((if c then b else a) + 0 + 1) (2 ^ 32)) e in omega (arith, is, le, x))

pub past_second : (a b n : ℕ) → a < 2 ^ 32 → b < 2 ^ 32 → end_of a b 0 ≤ n → b < n
past_second a b n x y le =
    decide (nat_lt a b) (b < n)
    (λ e. let is : end_of a b 0 ≡ min (b + 0 + 1) (2 ^ 32) = ap (λ (c : Bool). min ((if c then b else a) + 0 + 1) (2 ^ 32)) e in omega (arith, is, le, y))
    (λ e. let is : end_of a b 0 ≡ min (a + 0 + 1) (2 ^ 32) = ap (λ (c : Bool). min ((if c then b else a) + 0 + 1) (2 ^ 32)) e in let up = not_below a b e in omega (arith, is, le, up, x))

pub end_past : (a b : ℕ) → a < 2 ^ 32 → b < 2 ^ 32 → a < end_of a b 0
end_past a b x y =
    decide (nat_lt a b) (a < end_of a b 0)
    (λ e. let is : end_of a b 0 ≡ min (b + 0 + 1) (2 ^ 32) = ap (λ (c : Bool). min ((if c then b else a) + 0 + 1) (2 ^ 32)) e in let up = below a b e in omega (arith, is, up, x))
    (λ e. let is : end_of a b 0 ≡ min (a + 0 + 1) (2 ^ 32) = ap (λ (c : Bool). min ((if c then b else a) + 0 + 1) (2 ^ 32)) e in omega (arith, is, x))

pub record IsKnown : Type 0 where
  pub others : LeavesOthers
  pub blank : is_zeros zeros ≡ true

abbrev records_end : ℕ → List LogRecord → ℕ
records_end table records = last_in_records (heap_set table) 0 records

-- all behind that end are zeros
pub rest_stands : IsKnown → (records : List LogRecord) (table last behind end : ℕ) → behind ≡ records_end table records → end ≡ end_of last behind 0 → last < 2 ^ 32 → behind < 2 ^ 32 → (given n : ℕ) → end ≤ n
    → StandsAt (images_of records) table last given n
rest_stands k records table last behind end b e x y given n le =
    let up : end_of last behind 0 ≤ n = subst (λ (m : ℕ). m ≤ n) e le in
    let past : records_end table records < n = subst (λ (m : ℕ). m < n) b (past_second last behind n x y up) in
    blank_stands (images_of records) table last given n (past_first last behind n x y up) (ap is_zeros (never_changed k.others (heap_set table) n records past) ∙ k.blank)
