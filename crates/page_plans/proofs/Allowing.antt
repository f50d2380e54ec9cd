-- The patches of changes may stand in the log.
use Rattle.std.proofs.Common.{◌≡◌, ℕ, ◌+◌, ◌-◌, ◌*◌, ◌^◌, ◌<◌, ◌≤◌, sym, subst, Bool, true, false, List, [], ◌∷◌, ◌++◌, length, Some, arith, if◌then◌else◌}
use Rattle.std.specs.Prelude.{◌==◌, slice_index}
use Rattle.ds_base.specs.Ids.{IsTable}
use Rattle.ds_base.specs.declared.names.Place.{Place}
use Rattle.page_format.specs.Fields.{kind_at}
use Rattle.page_format.specs.declared.patch.Patch.{Patch}
use Rattle.ds_model.specs.RecordBytes.{PatchIsAllowed, PatchesAreAllowed}
use Rattle.ds_base.specs.Pages.{heap_page, index_page}
use Rattle.heap_space.specs.Changes.{front_patch, last_patch, count_patch, slot_patch, give_patches}
use Rattle.heap_space.specs.Changes as heap
use Rattle.index_leaf.specs.declared.layout.Entry.{Entry}
use Rattle.index_leaf.specs.Entries.{count_of, entries_of}
use Rattle.index_leaf.specs.Search.{how_many}
use Rattle.index_leaf.specs.Changes.{id_of, first_entry, low_of_split, moved_patch, insert_patches, right_id}
use Rattle.index_leaf.specs.Changes as index
use Rattle.page_plans.specs.Looks.{MayGive}
use Rattle.page_plans.specs.Plans.{IsName, entry_of, slot_patches, split_patches}
use Rattle.page_plans.proofs.Patch_sizes.{allowed_by, patch_in, length_two, length_four, length_entry, length_front, length_link, length_zeros, length_fields, length_half, length_moved, place_upto, length_heap_front, length_last, length_count, length_slot}

-- ---- names

pub index_name : (table number : ℕ) → IsTable table → number < 2 ^ 32 → IsName (index_page table number)
index_name table number is fits = record { from = omega (arith, is); upto = omega (arith, is); fits = fits }

heap_name : (table number : ℕ) → IsTable table → number < 2 ^ 32 → IsName (heap_page table number)
heap_name table number is fits = record { from = omega (arith, is); upto = omega (arith, is); fits = fits }

-- a page that bears the name of a page of an index
pub named_index : (page : List ℕ) (table number : ℕ) → IsTable table → number < 2 ^ 32 → id_of page ≡ index_page table number → IsName (id_of page)
named_index page table number is fits name = subst IsName (sym name) (index_name table number is fits)

-- ---- formats

pub index_format_is_allowed : (table : ℕ) → IsTable table → PatchesAreAllowed (index.format_patches table)
index_format_is_allowed table is =
    let a = length_front 3 (index_page table 0) in
    let b = length_four 3 in
    let c = length_front 4 (index_page table 1) in
    let d = length_two 1 in
    let e = length_entry first_entry in
    let f = length_front 5 (index_page table 2) in
    let zeroth = index_name table 0 is (omega arith) in
    let first = index_name table 1 is (omega arith) in
    let second = index_name table 2 is (omega arith) in
    allowed_by (index.format_patches table) (omega arith) (omega arith) (
      patch_in (index.front_patch 3 (index_page table 0)) 12 a zeroth (omega arith) (omega arith) (omega arith),
      (
        patch_in (index.next_patch (index_page table 0) 3) 4 b zeroth (omega arith) (omega arith) (omega arith),
        (
          patch_in (index.front_patch 4 (index_page table 1)) 12 c first (omega arith) (omega arith) (omega arith),
          (
            patch_in (index.count_patch (index_page table 1) 1) 2 d first (omega arith) (omega arith) (omega arith),
            (
              patch_in (index.patch_of (index_page table 1) 64 (index.entry_bytes first_entry)) 16 e first (omega arith) (omega arith) (omega arith),
              (
                patch_in (index.front_patch 5 (index_page table 2)) 12 f second (omega arith) (omega arith) (omega arith),
                tt,
              ),
            ),
          ),
        ),
      ),
    ) (omega (arith, a, b, c, d, e, f))

pub heap_format_is_allowed : (table : ℕ) → IsTable table → PatchesAreAllowed (heap.format_patches table)
unfolding heap.format_patches
heap_format_is_allowed table is =
    let a = length_heap_front 1 (heap_page table 0) in
    allowed_by (front_patch 1 (heap_page table 0) ∷ []) (omega arith) (omega arith)
    (patch_in (front_patch 1 (heap_page table 0)) 12 a (heap_name table 0 is (omega arith)) (omega arith) (omega arith) (omega arith), tt) (omega (arith, a))

-- ---- an entry

-- a whole page of an index
record IsPage (page : List ℕ) : Type 0 where
  whole : length page ≡ 4096
  name : IsName (id_of page)

record Inserts (page : List ℕ) (e : Entry) : Type 0 where
  each : (PatchIsAllowed (index.count_patch (id_of page) (count_of page + 1))) × (PatchIsAllowed (moved_patch page e (how_many (entries_of page) e.key)))
  count_small : length (index.count_patch (id_of page) (count_of page + 1)).bytes ≡ 2
  moved_small : length (moved_patch page e (how_many (entries_of page) e.key)).bytes ≤ 4064

inserts : (page : List ℕ) (e : Entry) → IsPage page → count_of page < 252 → Inserts page e
unfolding moved_patch
inserts page e k room =
    let p : ℕ = how_many (entries_of page) e.key in
    let n : ℕ = count_of page in
    let c = length_two (n + 1) in
    let le : p ≤ n = place_upto page n e.key in
    let m = length_moved page e p n k.whole le room in
    record {
      each = (
        patch_in (index.count_patch (id_of page) (n + 1)) 2 c k.name (omega arith) (omega arith) (omega arith),
        patch_in (moved_patch page e p) (16 + 16 * n - 16 * p) (omega (arith, m, le)) k.name (omega (arith, le)) (omega (arith, room)) (omega (arith, le, room)),
      );
      count_small = c;
      moved_small = omega (arith, m, le, room);
    }

pub insert_allowed : (page : List ℕ) (e : Entry) → length page ≡ 4096 → IsName (id_of page) → count_of page < 252 → PatchesAreAllowed (insert_patches page e)
insert_allowed page e whole name room =
    let i : Inserts page e = inserts page e (record { whole = whole; name = name }) room in
    let c = i.count_small in
    let m = i.moved_small in
    allowed_by (insert_patches page e) (omega arith) (omega arith) (i.each.0, (i.each.1, tt)) (omega (arith, c, m))

pub insert_as : (ps : List Patch) (page : List ℕ) (e : Entry) → ps ≡ insert_patches page e → length page ≡ 4096 → IsName (id_of page) → count_of page < 252 → PatchesAreAllowed ps
insert_as ps page e is whole name room = subst PatchesAreAllowed (sym is) (insert_allowed page e whole name room)

-- ---- a slot

-- the patches of the slot, with those of its entry behind them
give_by : (table key : ℕ) (place : Place) (page : List ℕ) (e : Entry) (first : Bool) → IsTable table → place.page < 2 ^ 32 → place.slot < 31 → Inserts page e
    → PatchesAreAllowed ((last_patch table place ∷ (if first then front_patch 2 (heap_page table place.page) ∷ [] else []) ++ (count_patch table place ∷ slot_patch table place key ∷ [])) ++ insert_patches page e)
give_by table key place page e true is fits slot i =
    let zeroth = heap_name table 0 is (omega arith) in
    let own = heap_name table place.page is fits in
    let l = length_last table place in
    let f = length_heap_front 2 (heap_page table place.page) in
    let c = length_count table place in
    let s = length_slot key in
    let ic = i.count_small in
    let im = i.moved_small in
    allowed_by (last_patch table place ∷ front_patch 2 (heap_page table place.page) ∷ count_patch table place ∷ slot_patch table place key ∷ insert_patches page e) (omega arith) (omega arith) (
      patch_in (last_patch table place) 6 l zeroth (omega arith) (omega arith) (omega arith),
      (
        patch_in (front_patch 2 (heap_page table place.page)) 12 f own (omega arith) (omega arith) (omega arith),
        (
          patch_in (count_patch table place) 2 c own (omega arith) (omega arith) (omega arith),
          (
            patch_in (slot_patch table place key) 128 s own (omega arith) (omega arith) (omega (arith, slot)),
            (i.each.0, (i.each.1, tt)),
          ),
        ),
      ),
    ) (omega (arith, l, f, c, s, ic, im))
give_by table key place page e false is fits slot i =
    let zeroth = heap_name table 0 is (omega arith) in
    let own = heap_name table place.page is fits in
    let l = length_last table place in
    let c = length_count table place in
    let s = length_slot key in
    let ic = i.count_small in
    let im = i.moved_small in
    allowed_by (last_patch table place ∷ count_patch table place ∷ slot_patch table place key ∷ insert_patches page e) (omega arith) (omega arith) (
      patch_in (last_patch table place) 6 l zeroth (omega arith) (omega arith) (omega arith),
      (
        patch_in (count_patch table place) 2 c own (omega arith) (omega arith) (omega arith),
        (
          patch_in (slot_patch table place key) 128 s own (omega arith) (omega arith) (omega (arith, slot)),
          (i.each.0, (i.each.1, tt)),
        ),
      ),
    ) (omega (arith, l, c, s, ic, im))

give_allowed : (table key : ℕ) (place : Place) (page : List ℕ) (e : Entry) → IsTable table → place.page < 2 ^ 32 → place.slot < 31 → Inserts page e
    → PatchesAreAllowed (give_patches table place key ++ insert_patches page e)
unfolding give_patches
give_allowed table key place page e is fits slot i = give_by table key place page e (place.slot == 0) is fits slot i

pub slot_allowed : (table key : ℕ) (place : Place) (page : List ℕ) → IsTable table → MayGive (Some place) → length page ≡ 4096 → IsName (id_of page) → count_of page < 252 → PatchesAreAllowed (slot_patches table key place page)
slot_allowed table key place page is may whole name room =
    give_allowed table key place page (entry_of key place) is (omega (arith, may.1)) may.2 (inserts page (entry_of key place) (record { whole = whole; name = name }) room)

pub slot_as : (ps : List Patch) (table key : ℕ) (place : Place) (page : List ℕ) → ps ≡ slot_patches table key place page → IsTable table → MayGive (Some place) → length page ≡ 4096 → IsName (id_of page) → count_of page < 252 → PatchesAreAllowed ps
slot_as ps table key place page is table_is may whole name room = subst PatchesAreAllowed (sym is) (slot_allowed table key place page table_is may whole name room)

-- ---- a split

pub split_allowed : (header page : List ℕ) (next : ℕ) → IsName (id_of header) → length page ≡ 4096 → IsName (id_of page) → next < 2 ^ 32 → PatchesAreAllowed (split_patches header page next)
split_allowed header page next named whole name fits =
    let k : IsPage page = record { whole = whole; name = name } in
    let new : IsName (right_id page next) = record { from = k.name.from; upto = k.name.upto; fits = fits } in
    let a = length_four (index.next_page_of header + 1) in
    let b = length_two 126 in
    let c = length_link (low_of_split page) next in
    let d = length_zeros 2016 in
    let e = length_front (slice_index page kind_at) (right_id page next) in
    let f = length_fields page k.whole in
    let g = length_half page k.whole in
    allowed_by (split_patches header page next) (omega arith) (omega arith) (
      patch_in (index.next_patch (id_of header) (index.next_page_of header + 1)) 4 a named (omega arith) (omega arith) (omega arith),
      (
        patch_in (index.count_patch (id_of page) 126) 2 b k.name (omega arith) (omega arith) (omega arith),
        (
          patch_in (index.patch_of (id_of page) 40 (index.link_bytes (low_of_split page) next)) 16 c k.name (omega arith) (omega arith) (omega arith),
          (
            patch_in (index.patch_of (id_of page) 2080 (index.zeros 2016)) 2016 d k.name (omega arith) (omega arith) (omega arith),
            (
              patch_in (index.front_patch (slice_index page kind_at) (right_id page next)) 12 e new (omega arith) (omega arith) (omega arith),
              (
                patch_in (index.count_patch (right_id page next) 126) 2 b new (omega arith) (omega arith) (omega arith),
                (
                  patch_in (index.patch_of (right_id page next) 32 (index.fields_bytes page)) 24 f new (omega arith) (omega arith) (omega arith),
                  (
                    patch_in (index.patch_of (right_id page next) 64 (index.half_bytes page)) 2016 g new (omega arith) (omega arith) (omega arith),
                    tt,
                  ),
                ),
              ),
            ),
          ),
        ),
      ),
    ) (omega (arith, a, b, c, d, e, f, g))

pub split_as : (ps : List Patch) (header page : List ℕ) (next : ℕ) → ps ≡ split_patches header page next → IsName (id_of header) → length page ≡ 4096 → IsName (id_of page) → next < 2 ^ 32 → PatchesAreAllowed ps
split_as ps header page next is named whole name fits = subst PatchesAreAllowed (sym is) (split_allowed header page next named whole name fits)
