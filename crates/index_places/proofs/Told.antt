-- From the pages of a table to the table, and from each table to all.
use Rattle.std.proofs.Common.{◌≡◌, ◌⊎◌, ℕ, ◌+◌, ◌<◌, ◌≤◌, true, not, List, Option, Some, None, Result, Ok, Err, refl, sym, ap, subst, arith, inl, inr}
use Rattle.std.specs.Prelude.{IfOk, slice_index}
use Rattle.std.proofs.lemmas.Bool.{cases_lt}
use Rattle.ds_base.specs.Ids.{IsTable}
use Rattle.ds_base.specs.Pages.{heap_page, index_page}
use Rattle.ds_base.specs.declared.names.PageId.{PageId}
use Rattle.ds_base.specs.declared.names.Place.{Place}
use Rattle.ds_model.specs.declared.log.LogRecord.{LogRecord}
use Rattle.page_images.specs.Images.{Images, zeros}
use Rattle.page_chain.specs.Chains.{images_of, LeavesOthers}
use Rattle.sound_disk.specs.Heaps.{IsHeap}
use Rattle.sound_disk.specs.Indexes.{AreIndexPages}
use Rattle.sound_disk.specs.Rows_there.{row_after, said_at, IsPlaceOf}
use Rattle.sound_disk.specs.Tables.{HasNoIndex, IsWholeIndex, IsWholeTable}
use Rattle.redone_pages.specs.declared.range.TableRange.{TableRange}
use Rattle.redone_pages.specs.Ranges.{HasTable}
use Rattle.table_images.specs.Stands.{StandsIsHeap}
use Rattle.table_images.specs.Nodes.{IsUnformatted, StandsIsIndex}
use Rattle.index_links.specs.declared.nodes.Node.{Node}
use Rattle.index_links.specs.Links.{is_linked}
use Rattle.index_links.specs.Opens.{Opens, LinkedOpens}
use Rattle.index_places.specs.Whole.{IsFirstWrong, IsHeapFound, IsIndexFound, IsRightHeapPage, IsRightIndexPage, IsNamed, IsTableTold, IsFirstUnwholeOf}
use Rattle.index_places.proofs.Leaf_tests.{whole_of, whole_leaf}
use Rattle.index_places.proofs.Index_pages.{blank_next, unformatted_next, all_nodes}

-- what the crates below say of pages
pub record Laws : Type 0 where
  pub heap : StandsIsHeap
  pub index : StandsIsIndex
  pub linked : LinkedOpens
  pub others : LeavesOthers
  pub zeros : slice_index zeros 4 ≡ 0

-- ---- the heap

abbrev HeapRight : List LogRecord → ℕ → Type 0
HeapRight records table = (n : ℕ) → IsRightHeapPage (images_of records) records table n

heap_of : Laws → (records : List LogRecord) (table : ℕ) → HeapRight records table → IsHeap (images_of records) table
heap_of l records table h = (l.heap (images_of records) table).0 (λ n. (h n).0)

rows_of : (records : List LogRecord) (table : ℕ) → HeapRight records table → (key : ℕ) (place : Place) → IsPlaceOf (images_of records) table key place → said_at (images_of records) table place ≡ Some (key, row_after records table key)
rows_of records table h key place g = (h place.page).1 place.slot g.given key g.key_is

of_heap : Laws → (records : List LogRecord) (table : ℕ) → IsWholeTable (images_of records) records table → HeapRight records table
of_heap l records table w n = ((l.heap (images_of records) table).1 w.heap n, λ s lt key e. w.rows key (record { page = n; slot = s }) (record { given = lt; key_is = e }))

heap_right : (records : List LogRecord) (table : ℕ) (found : Option PageId) → found ≡ None → IsHeapFound (images_of records) records table found → HeapRight records table
heap_right records table found is h = subst (λ (f : Option PageId). IsHeapFound (images_of records) records table f) is h

pub is_heap : Laws → (records : List LogRecord) (table : ℕ) (found : Option PageId) → found ≡ None → IsHeapFound (images_of records) records table found → IsHeap (images_of records) table
is_heap l records table found is h = heap_of l records table (heap_right records table found is h)

-- ---- the index

abbrev IndexRight : List LogRecord → ℕ → Type 0
IndexRight records table = (n : ℕ) → IsRightIndexPage (images_of records) records table n

abbrev HasIndex : List LogRecord → ℕ → Type 0
HasIndex records table = HasNoIndex (images_of records) table ⊎ IsWholeIndex (images_of records) records table

opens : Laws → (records : List LogRecord) (table : ℕ) → AreIndexPages (images_of records) table → IndexRight records table → Opens (images_of records) records table
opens l records table p h =
    (l.linked records table p).0 (λ n from to.
    subst (λ (nodes : List Node). is_linked table nodes n (images_of records (index_page table n)) ≡ true) (all_nodes l.others l.zeros records table p) ((h n).among from to).linked)

index_by : Laws → (records : List LogRecord) (table : ℕ) → IsUnformatted (images_of records) table ⊎ AreIndexPages (images_of records) table → IndexRight records table → HasIndex records table
index_by l records table (inl u) h = inl (record { zeros = u; no_key = (h 1).formatted refl (ap not (u 0)) })
index_by l records table (inr p) h = inr (whole_of (images_of records) records table p (opens l records table p h) (λ n from to. ((h n).among from to).leaf))

index_of : Laws → (records : List LogRecord) (table : ℕ) → IndexRight records table → HasIndex records table
index_of l records table h = index_by l records table ((l.index (images_of records) table).0 (λ n. (h n).by_itself)) h

of_index : Laws → (records : List LogRecord) (table : ℕ) → HasIndex records table → IndexRight records table
of_index l records table (inl w) n = record {
  by_itself = (l.index (images_of records) table).1 (inl w.zeros) n;
  among = λ from to. let none = blank_next (images_of records) table (w.zeros 0) in absurd (omega (arith, none, to));
  formatted = λ one un. w.no_key;
}
of_index l records table (inr w) n =
    let nodes = all_nodes l.others l.zeros records table w.pages in
    record {
      by_itself = (l.index (images_of records) table).1 (inr w.pages) n;
      among = λ from to. record {
        linked =
            subst (λ (ns : List Node). is_linked table ns n (images_of records (index_page table n)) ≡ true) (sym nodes)
            ((l.linked records table w.pages).1 (record { home = w.home; sound = w.opens }) n from to);
        leaf = whole_leaf (images_of records) records table n w (record { from = from; to = to });
      };
      formatted = λ one un. let none = unformatted_next (images_of records) table un in let some = w.pages.header.next_from in absurd (omega (arith, none, some));
    }

-- ---- a table

pub heap_named : Laws → (records : List LogRecord) (table : ℕ) (found : Option PageId) (id : PageId) → found ≡ Some id → IsHeapFound (images_of records) records table found → IsTableTold (images_of records) records table (Some id)
heap_named l records table found id is h =
    let first : IsFirstWrong (heap_page table) (IsRightHeapPage (images_of records) records table) id = subst (λ (f : Option PageId). IsHeapFound (images_of records) records table f) is h in
    (λ w. first.wrong (of_heap l records table w id.number), inl first)

table_found : Laws → (records : List LogRecord) (table : ℕ) (found : Option PageId) → HeapRight records table → IsIndexFound (images_of records) records table found → IsTableTold (images_of records) records table found
table_found l records table None heap h = record { heap = heap_of l records table heap; index = index_of l records table h; rows = rows_of records table heap }
table_found l records table (Some id) heap h = (λ w. h.wrong (of_index l records table w.index id.number), inr (heap, h))

pub table_told : Laws → {E : Type 0} (records : List LogRecord) (table : ℕ) (before : Option PageId) (result : Result (Option PageId) E) → before ≡ None → IsHeapFound (images_of records) records table before
    → IfOk result (λ found. IsIndexFound (images_of records) records table found) → IfOk result (λ found. IsTableTold (images_of records) records table found)
table_told l records table before (Ok found) is heap h = table_found l records table found (heap_right records table before is heap) h
table_told l records table before (Err e) is heap h = tt

-- ---- the tables of a range

-- those before this one are whole
abbrev pub AreWholeTo : Images → List LogRecord → TableRange → ℕ → Type 0
AreWholeTo at records range n = (k : ℕ) → range.first ≤ k → k < n → IsWholeTable at records k

pub first_unwhole : (at : Images) (records : List LogRecord) (range : TableRange) (table n : ℕ) (found : Option PageId) (id : PageId) → IsTable n → HasTable range n → table ≡ n → found ≡ Some id → IsTableTold at records table found
    → AreWholeTo at records range n → IsFirstUnwholeOf at records range id
first_unwhole at records range table n found id is has e some told before =
    let named : (IsWholeTable at records table → ⊥) × IsNamed at records table id = subst (λ (f : Option PageId). IsTableTold at records table f) some told in
    record {
      table = table;
      is_table = subst IsTable (sym e) is;
      in_range = subst (HasTable range) (sym e) has;
      unwhole = named.0;
      before = λ k from lt. before k from (omega (arith, lt, e));
      page = named.1;
    }

pub whole : (at : Images) (records : List LogRecord) (table : ℕ) (found : Option PageId) → found ≡ None → IsTableTold at records table found → IsWholeTable at records table
whole at records table found is told = subst (λ (f : Option PageId). IsTableTold at records table f) is told

pub tables_more : (at : Images) (records : List LogRecord) (range : TableRange) (table n : ℕ) → table ≡ n → IsWholeTable at records table → AreWholeTo at records range n → AreWholeTo at records range (n + 1)
tables_more at records range table n e w h k from lt =
    elim (cases_lt k n) as (λ _. IsWholeTable at records k) [
      | inl less ↦ h k from less
      | inr up ↦ let same : table ≡ k = omega (arith, e, lt, up) in subst (λ (m : ℕ). IsWholeTable at records m) same w
    ]
