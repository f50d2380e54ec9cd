-- How many bytes patches have, and which may stand in the log.
use Rattle.std.proofs.Common.{◌≡◌, ℕ, zero, suc, ◌+◌, ◌*◌, ◌<◌, ◌≤◌, refl, ap, Bool, true, false, List, [], ◌∷◌, ◌++◌, length, None, arith, length-append, if◌then◌else◌}
use Rattle.std.specs.Prelude.{leb, slice_range}
use Rattle.std.specs.List.{flat_map, AllByRecursion}
use Rattle.std.specs.Int.{w16, w32, to_be_bytes}
use Rattle.std.proofs.lemmas.List.{length-replicate}
use Rattle.std.proofs.lemmas.List.Edits.{length-between}
use Rattle.ds_base.specs.declared.names.PageId.{PageId}
use Rattle.ds_base.specs.declared.names.Place.{Place}
use Rattle.page_format.specs.declared.patch.Patch.{Patch}
use Rattle.ds_model.specs.RecordBytes.{patch_bytes, PatchIsAllowed, PatchesAreAllowed}
use Rattle.heap_space.specs.Changes.{front, last_patch, count_patch}
use Rattle.heap_space.specs.Slots.{image}
use Rattle.index_leaf.specs.declared.layout.Entry.{Entry}
use Rattle.index_leaf.specs.Entries.{entries_from}
use Rattle.index_leaf.specs.Search.{how_many}
use Rattle.index_leaf.specs.Changes.{spelt, entry_bytes, front_of, link_bytes, fields_bytes, half_bytes}
use Rattle.index_leaf.specs.Changes as index
use Rattle.page_plans.specs.Plans.{IsName}

-- ---- all patches of a record

abbrev pub size_of : List Patch → ℕ
size_of [] = 0
size_of (p ∷ ps) = 10 + length p.bytes + size_of ps

patch_width : (p : Patch) → length (patch_bytes p) ≡ 10 + length p.bytes
patch_width p =
    let head : List ℕ = to_be_bytes w16 p.page.set ++ to_be_bytes w32 p.page.number ++ to_be_bytes w16 p.offset ++ to_be_bytes w16 (length p.bytes) in
    let l : length head ≡ 10 = refl in
    omega (arith, l)

patches_width : (ps : List Patch) → length (flat_map patch_bytes ps) ≡ size_of ps
patches_width [] = refl
patches_width (p ∷ ps) =
    let here = patch_width p in
    let more = patches_width ps in
    let both = length-append (patch_bytes p) (flat_map patch_bytes ps) in omega (arith, here, more, both)

pub allowed_by : (ps : List Patch) → 1 ≤ length ps → length ps ≤ 12 → AllByRecursion PatchIsAllowed ps → size_of ps ≤ 16353 → PatchesAreAllowed ps
allowed_by ps some few each small = let width = patches_width ps in record { some = some; few = few; each = each; short = omega (arith, width, small) }

-- ---- one patch

pub patch_in : (p : Patch) (n : ℕ) → length p.bytes ≡ n → IsName p.page → 1 ≤ n → n ≤ 4064 → p.offset + n ≤ 4096 → PatchIsAllowed p
patch_in p n l id some few within = record {
  set_from = id.from;
  set_to = id.upto;
  page_in = id.fits;
  some = omega (arith, l, some);
  few = omega (arith, l, few);
  within = omega (arith, l, within);
}

-- ---- the bytes of patches

pub length_two : (number : ℕ) → length (spelt 2 number) ≡ 2
unfolding spelt
length_two number = refl

pub length_four : (number : ℕ) → length (spelt 4 number) ≡ 4
unfolding spelt
length_four number = refl

pub length_entry : (e : Entry) → length (entry_bytes e) ≡ 16
unfolding entry_bytes spelt
length_entry e = refl

pub length_front : (kind : ℕ) (id : PageId) → length (front_of kind id) ≡ 12
unfolding front_of spelt
length_front kind id = refl

pub length_link : (high number : ℕ) → length (link_bytes high number) ≡ 16
unfolding link_bytes spelt
length_link high number = refl

pub length_zeros : (n : ℕ) → length (index.zeros n) ≡ n
unfolding index.zeros
length_zeros n = length-replicate n 0

pub length_fields : (page : List ℕ) → length page ≡ 4096 → length (fields_bytes page) ≡ 24
unfolding fields_bytes spelt
length_fields page l = let b = length-between page 40 56 (omega arith) in omega (arith, b)

pub length_half : (page : List ℕ) → length page ≡ 4096 → length (half_bytes page) ≡ 2016
unfolding half_bytes
length_half page l = length-between page 2080 4096 (omega arith)

-- the entry, and the entries behind its place
pub length_moved : (page : List ℕ) (e : Entry) (p n : ℕ) → length page ≡ 4096 → p ≤ n → n < 252
    → length (entry_bytes e ++ slice_range page (64 + 16 * p) (64 + 16 * n)) + 16 * p ≡ 16 + 16 * n
length_moved page e p n l le lt =
    let le_entry = length_entry e in
    let lr = length-between page (64 + 16 * p) (64 + 16 * n) (omega arith) in
    let la = length-append (entry_bytes e) (slice_range page (64 + 16 * p) (64 + 16 * n)) in
    omega (arith, le_entry, lr, la)

length_entries : (page : List ℕ) (offset n : ℕ) → length (entries_from page offset n) ≡ n
length_entries page offset zero = refl
length_entries page offset (suc n) = ap suc (length_entries page (offset + 16) n)

many_when : (e : Entry) (es : List Entry) (key : ℕ) (b : Bool) → how_many es key ≤ length es → (if b then suc (how_many es key) else 0) ≤ suc (length es)
many_when e es key true le = omega (arith, le)
many_when e es key false le = omega arith

many_upto : (es : List Entry) (key : ℕ) → how_many es key ≤ length es
many_upto [] key = omega arith
many_upto (e ∷ es) key = many_when e es key (leb e.key key) (many_upto es key)

pub place_upto : (page : List ℕ) (n key : ℕ) → how_many (entries_from page 64 n) key ≤ n
place_upto page n key = let many = many_upto (entries_from page 64 n) key in let all = length_entries page 64 n in omega (arith, many, all)

-- ---- those of a heap

pub length_heap_front : (kind : ℕ) (id : PageId) → length (front kind id) ≡ 12
length_heap_front kind id = refl

pub length_last : (table : ℕ) (place : Place) → length (last_patch table place).bytes ≡ 6
length_last table place = refl

pub length_count : (table : ℕ) (place : Place) → length (count_patch table place).bytes ≡ 2
length_count table place = refl

pub length_slot : (key : ℕ) → length (image key None) ≡ 128
length_slot key = refl
