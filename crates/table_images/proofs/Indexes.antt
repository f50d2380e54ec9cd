-- From the pages of an index to the index.
use Rattle.std.proofs.Common.{◌≡◌, ◌⊎◌, ℕ, ◌-◌, ◌^◌, ◌<◌, ◌≤◌, Bool, true, false, not, List, Result, Ok, Err, refl, sym, ap, subst, ◌∙◌, arith, inl, inr}
use Rattle.std.specs.Prelude.{if◌then◌else◌}
use Rattle.std.proofs.lemmas.Bool.Decides.{nat_tests}
use Rattle.ds_base.specs.Pages.{index_page, index_set}
use Rattle.ds_base.specs.declared.names.PageId.{PageId}
use Rattle.ds_model.specs.declared.log.LogRecord.{LogRecord}
use Rattle.page_format.specs.Header.{is_zeros, header_of, empty_header, judged, first_fault, fields, header_in}
use Rattle.page_format.specs.declared.header.Header.{Header}
use Rattle.page_format.specs.declared.header.NotAPage.{NotAPage}
use Rattle.page_format.specs.declared.header.PageKind.{PageKind}
use Rattle.page_format.specs.declared.header.PageKind.TheVariants as kind
use Rattle.sound_disk.specs.Layouts.{IsOfKind}
use Rattle.page_images.specs.Images.{Images}
use Rattle.page_chain.specs.Chains.{images_of}
use Rattle.sound_disk.specs.Indexes.{IsIndexHeader, index_next, AreIndexPages}
use Rattle.disk_versions.specs.Ends.{last_in_records, end_of}
use Rattle.table_images.specs.Nodes.{NodeStandsAt, last_node, IsUnformatted, is_formatted}
use Rattle.table_images.proofs.Untouched.{never_changed}
use Rattle.table_images.proofs.Heaps.{IsKnown, past_first, past_second}

-- ---- the index

abbrev EachIn : Images → ℕ → Bool → Type 0
EachIn at table f = (n : ℕ) → NodeStandsAt at table f (index_next at table) n

pages_of : (at : Images) (table : ℕ) → EachIn at table true → AreIndexPages at table
pages_of at table h =
    let first = (h 0).header refl in
    record {
      header = first;
      pages = λ n from to. (h n).node from to;
      full = λ n from to. (h n).full from to;
      rest = λ n behind. let low = first.next_from in (h n).rest (omega (arith, behind, low)) behind;
    }

of_pages : (at : Images) (table : ℕ) → AreIndexPages at table → EachIn at table true
of_pages at table h n = record {
  header = λ e. subst (λ (m : ℕ). IsIndexHeader (index_page table m) (at (index_page table m))) (sym e) h.header;
  node = λ from to. h.pages n from to;
  full = λ from to. h.full n from to;
  rest = λ from behind. h.rest n behind;
}

not_not : (b : Bool) → not b ≡ false → b ≡ true
not_not true h = refl
not_not false h = absurd cc

abbrev kind_in : Result Header NotAPage → PageKind
kind_in (Ok h) = h.kind
kind_in (Err x) = kind.Empty

index_of : (at : Images) (table : ℕ) (f : Bool) → EachIn at table f → IsUnformatted at table ⊎ AreIndexPages at table
index_of at table true h = inr (pages_of at table h)
index_of at table false h = inl h

-- zeros are no header of an index
no_header : (k : PageKind) (header : Result Header NotAPage) → header ≡ Ok empty_header → IsOfKind k header → k ≡ kind.Empty
no_header k (Ok h) e is = sym is ∙ ap kind_in e
no_header k (Err x) e is = absurd is

when_zeros : (page : List ℕ) (id : PageId) → is_zeros page ≡ true → header_of page id ≡ Ok empty_header
unfolding header_of
when_zeros page id e = ap (λ (b : Bool). if b then Ok empty_header else judged (first_fault (fields page id)) (header_in page)) e

zeros_are_none : (page : List ℕ) (id : PageId) → is_zeros page ≡ true → IsIndexHeader id page → ⊥
zeros_are_none page id e h = let is = no_header kind.IndexHeader (header_of page id) (when_zeros page id e) h.kind_is in absurd (cc is)

-- what is right of the index is so whether it is formatted or not
unformatted_each : (at : Images) (table : ℕ) (f : Bool) → f ≡ is_formatted at table → IsUnformatted at table → EachIn at table f
unformatted_each at table true e h = absurd (cc (e, h 0))
unformatted_each at table false e h = h

formatted_each : (at : Images) (table : ℕ) (f : Bool) → f ≡ is_formatted at table → AreIndexPages at table → EachIn at table f
formatted_each at table true e h = of_pages at table h
formatted_each at table false e h = absurd (zeros_are_none (at (index_page table 0)) (index_page table 0) (not_not (is_zeros (at (index_page table 0))) (sym e)) h.header)

blank_stands : (at : Images) (table : ℕ) (f : Bool) (next n : ℕ) → next - 1 < n → is_zeros (at (index_page table n)) ≡ true → NodeStandsAt at table f next n
blank_stands at table true next n lt e = record {
  header = λ z. absurd (omega (arith, lt, z));
  node = λ from to. absurd (omega (arith, lt, to));
  full = λ from to. absurd (omega (arith, lt, to));
  rest = λ from behind. e;
}
blank_stands at table false next n lt e = e

abbrev records_end : ℕ → List LogRecord → ℕ
records_end table records = last_in_records (index_set table) 0 records

last_from : (next : ℕ) → next - 1 ≤ last_node next
last_from next = grind (arith, nat_tests)

-- all behind that end are zeros
pub rest_stands : IsKnown → (records : List LogRecord) (table next behind end : ℕ) → behind ≡ records_end table records → end ≡ end_of (last_node next) behind 0 → last_node next < 2 ^ 32 → behind < 2 ^ 32 → (f : Bool) (n : ℕ) → end ≤ n
    → NodeStandsAt (images_of records) table f next n
rest_stands k records table next behind end b e x y f n le =
    let up : end_of (last_node next) behind 0 ≤ n = subst (λ (m : ℕ). m ≤ n) e le in
    let past : records_end table records < n = subst (λ (m : ℕ). m < n) b (past_second (last_node next) behind n x y up) in
    let first = past_first (last_node next) behind n x y up in
    let from = last_from next in
    blank_stands (images_of records) table f next n (omega (arith, first, from)) (ap is_zeros (never_changed k.others (index_set table) n records past) ∙ k.blank)

-- ---- both ways

pub index_told : (at : Images) (table : ℕ) → EachIn at table (is_formatted at table) → IsUnformatted at table ⊎ AreIndexPages at table
index_told at table h = index_of at table (is_formatted at table) h

pub told_index : (at : Images) (table : ℕ) → IsUnformatted at table ⊎ AreIndexPages at table → EachIn at table (is_formatted at table)
told_index at table (inl u) = unformatted_each at table (is_formatted at table) refl u
told_index at table (inr p) = formatted_each at table (is_formatted at table) refl p
