-- Pages of zeros: they may stand on each disk, and make tables without a heap and without an index.
use Rattle.std.proofs.Common.{◌≡◌, ℕ, ◌<◌, ◌≤◌, Bool, true, false, cond, List, [], ◌∷◌, ◌++◌, length, refl, sym, ap, subst, ◌∙◌, arith, inl, inr, unwrap_or, replicate, slice_index}
use Rattle.std.specs.FinMap as map
use Rattle.std.specs.FinMap.{get-empty}
use Rattle.ds_base.specs.Ids.{IsTable}
use Rattle.ds_base.specs.Pages.{heap_page, index_page}
use Rattle.ds_base.specs.declared.names.PageId.{PageId}
use Rattle.ds_base.specs.declared.names.Place.{Place}
use Rattle.ds_disk.specs.Pages.{page_cmp, page_at}
use Rattle.ds_model.specs.declared.log.LogRecord.{LogRecord}
use Rattle.page_format.specs.Fields.{page_size, version_at, count_at, number_in, is_old, renewed}
use Rattle.page_format.specs.Header.{is_zeros, header_of, empty_header}
use Rattle.std.specs.Prelude.{Result, Ok, ◌==◌}
use Rattle.heap_space.specs.Layout.{last_page_at}
use Rattle.index_leaf.specs.Changes.{zeros as zero_bytes}
use Rattle.log_record.specs.declared.log.Log.{Log}
use Rattle.page_images.specs.Images.{Images, zeros}
use Rattle.page_redo.specs.Given.{images_of}
use Rattle.sound_disk.specs.Versions.{merged, is_page, current, MayStand}
use Rattle.sound_disk.specs.Heaps.{heap_last, IsHeap}
use Rattle.sound_disk.specs.Rows_there.{IsPlaceOf, BeforesAgree}
use Rattle.sound_disk.specs.Tables.{HasNoIndex, IsWholeTable, AreWholeTables}

-- what is known of a page of zeros
pub record IsBlank : Type 0 where
  pub all : is_zeros zeros ≡ true
  pub bytes : (k : ℕ) → slice_index zeros k ≡ 0
  pub numbers : (at width : ℕ) → number_in zeros at width ≡ 0
  pub header : (id : PageId) → header_of zeros id ≡ Ok empty_header

pub never_written : (id : PageId) → page_at map.empty id ≡ zeros
unfolding zero_bytes
never_written id = ap (λ o. unwrap_or o (replicate 4096 0)) (get-empty {X = List ℕ} page_cmp id)

not_old : IsBlank → is_old zeros ≡ false
not_old b = ap (λ (n : ℕ). n == 1) (b.bytes version_at)

blank_is_current : IsBlank → current zeros ≡ zeros
blank_is_current b = ap (λ (o : Bool). cond o (renewed zeros) zeros) (not_old b)

blank_stands : IsBlank → (logs : List Log) (id : PageId) → MayStand logs id zeros
blank_stands b logs id = record {
  header = ap is_page (b.header id);
  version = record { first = []; rest = merged logs; whole = refl; bytes = blank_is_current b };
  renewing = λ old. absurd (cc (not_old b, old));
}

pub zeros_stand : IsBlank → (logs : List Log) (id : PageId) (page : List ℕ) → page ≡ zeros → MayStand logs id page
zeros_stand b logs id page e = subst (λ (p : List ℕ). MayStand logs id p) (sym e) (blank_stands b logs id)

-- ---- tables

no_place : IsBlank → (at : Images) → ((id : PageId) → at id ≡ zeros) → (table key : ℕ) (place : Place) → IsPlaceOf at table key place → ⊥
no_place b at h table key place is =
    let none : number_in (at (heap_page table place.page)) count_at 2 ≡ 0 = ap (λ (p : List ℕ). number_in p count_at 2) (h (heap_page table place.page)) ∙ b.numbers count_at 2 in
    omega (arith, is.given, none)

no_last : IsBlank → (at : Images) → ((id : PageId) → at id ≡ zeros) → (table : ℕ) → heap_last at table ≡ 0
no_last b at h table = ap (λ (p : List ℕ). number_in p last_page_at 4) (h (heap_page table 0)) ∙ b.numbers last_page_at 4

no_heap : IsBlank → (at : Images) → ((id : PageId) → at id ≡ zeros) → (table : ℕ) → IsHeap at table
no_heap b at h table =
    let none = no_last b at h table in
    record {
      header = inl (ap is_zeros (h (heap_page table 0)) ∙ b.all);
      pages = λ p from to. absurd (omega (arith, none, from, to));
      last = λ some. absurd (omega (arith, none, some));
      rest = λ p behind. ap is_zeros (h (heap_page table p)) ∙ b.all;
    }

no_index : IsBlank → (at : Images) → ((id : PageId) → at id ≡ zeros) → (table : ℕ) → HasNoIndex at table
no_index b at h table = record { zeros = λ n. ap is_zeros (h (index_page table n)) ∙ b.all; no_key = no_place b at h table }

pub blank_tables : IsBlank → (records : List LogRecord) → ((id : PageId) → images_of records id ≡ zeros) → BeforesAgree [] records → AreWholeTables records
blank_tables b records h befores = record {
  tables = λ table in_range. record {
    heap = no_heap b (images_of records) h table;
    index = inl (no_index b (images_of records) h table);
    rows = λ key place is. absurd (no_place b (images_of records) h table key place is);
  };
  befores = befores;
}
