-- The first pages of a new index.
use Rattle.std.proofs.Common.{◌≡◌, ℕ, ◌+◌, ◌*◌, ◌<◌, ◌≤◌, refl, sym, ap, ◌∙◌, subst, inl, inr, arith, false, List, [], ◌∷◌, length, get_or, Option, Some, None, if◌then◌else◌}
use Rattle.std.proofs.lemmas.Bool.{eq-eqb, le-leb, cases_lt}
use Rattle.std.proofs.lemmas.List.{append-nil, length-replicate, get_or-replicate, get_or_past}
use Rattle.std.specs.Prelude.{◌==◌, slice_index, replicate}
use Rattle.page_format.specs.Fields.{patched, set_lrsn}
use Rattle.page_format.specs.declared.patch.Patch.{Patch}
use Rattle.index_leaf.specs.declared.layout.Entry.{Entry}
use Rattle.index_leaf.specs.declared.step.Look.TheVariants.{Down, Absent}
use Rattle.index_leaf.specs.Entries.{count_of, low_of, high_of, high_field, right_field, entry_in, entries_from, entries_of, IsRising}
use Rattle.index_leaf.specs.Search.{is_beyond, floor, find, look_of}
use Rattle.ds_base.specs.Pages.{index_page}
use Rattle.index_leaf.specs.Changes.{all_patched, spelt, entry_bytes, front_of, front_patch, count_patch, patch_of, zeros, branch, leaf, first_entry, format_patches}
use Rattle.index_leaf.specs.Nodes.{IsNode, ReadsAs, LiesInPage, AllLieInPage, all_stamped, patches_for, IsFirst}
use Rattle.index_leaf.proofs.Writes.{length_patched, byte_before, byte_inside, byte_behind, same_number, length_spelt, length_entry, same_entry, count_read, count_kept, entry_read}
use Rattle.index_leaf.proofs.Parts.{length_front, front_kind}
use Rattle.index_leaf.proofs.Stamps.{length_stamp, stamp_reads, stamped_once}
use Rattle.index_leaf.proofs.Steps.{by_parts}
use Rattle.index_leaf.proofs.Taken.{count_is}

-- ---- zeros

zero_byte : (n k : ℕ) → get_or (zeros n) k 0 ≡ 0
unfolding zeros
zero_byte n k =
    let none : ℕ = 0 in
    let xs : List ℕ = replicate n none in
    let l : length xs ≡ n = length-replicate n none in
    elim (cases_lt k n) as (λ _. get_or xs k none ≡ none) [
      | inl lt ↦ get_or-replicate n k none none lt
      | inr le ↦ get_or_past xs k none (omega (arith, l))
    ]

length_zero : (n : ℕ) → length (zeros n) ≡ n
unfolding zeros
length_zero n = length-replicate n 0

count_zero : (page : List ℕ) → ((k : ℕ) → 26 ≤ k → k < 28 → get_or page k 0 ≡ 0) → count_of page ≡ 0
unfolding count_of
count_zero page h = same_number page [] 26 0 2 (λ k lt. h (26 + k) (omega arith) (omega arith))

low_zero : (page : List ℕ) → ((k : ℕ) → 28 ≤ k → k < 64 → get_or page k 0 ≡ 0) → low_of page ≡ 0
unfolding low_of
low_zero page h = same_number page [] 32 0 8 (λ k lt. h (32 + k) (omega arith) (omega arith))

right_zero : (page : List ℕ) → ((k : ℕ) → 28 ≤ k → k < 64 → get_or page k 0 ≡ 0) → right_field page ≡ 0
unfolding right_field
right_zero page h = same_number page [] 52 0 4 (λ k lt. h (52 + k) (omega arith) (omega arith))

high_none : (page : List ℕ) → ((k : ℕ) → 28 ≤ k → k < 64 → get_or page k 0 ≡ 0) → high_of page ≡ None
high_none page h = ap (λ (b : ℕ). if b == 1 then Some (high_field page) else None) (h 48 (omega arith) (omega arith))

-- ---- the first leaf

leaf_after : (fresh front : List ℕ) (kind : ℕ) → length fresh ≡ 4096 → ((k : ℕ) → get_or fresh k 0 ≡ 0) → length front ≡ 12 → slice_index front 4 ≡ kind → IsFirst (patched fresh 0 front) kind []
leaf_after fresh front kind l z f is =
    let new = patched fresh 0 front in
    let blank : (k : ℕ) → 12 ≤ k → get_or new k 0 ≡ 0 = λ k le. byte_behind fresh front 0 k (omega arith) (omega (arith, f)) ∙ z k in
    record {
      whole = length_patched fresh front 0 (omega arith) ∙ l;
      is_of = byte_inside fresh front 0 4 (omega arith) (omega arith) ∙ is;
      entries = ap (entries_from new 64) (count_zero new (λ k le lt. blank k (omega arith)));
      low_key = low_zero new (λ k le lt. blank k (omega arith));
      high_key = high_none new (λ k le lt. blank k (omega arith));
      right_page = right_zero new (λ k le lt. blank k (omega arith));
    }

-- ---- the first branch

one_entry : (page : List ℕ) (e : Entry) → count_of page ≡ 1 → entry_in page 64 ≡ e → entries_of page ≡ e ∷ []
one_entry page e count is = ap (entries_from page 64) count ∙ ap (λ (x : Entry). x ∷ []) is

branch_after : (fresh front bytes : List ℕ) (kind : ℕ) (e : Entry) → length fresh ≡ 4096 → ((k : ℕ) → get_or fresh k 0 ≡ 0) → length front ≡ 12 → slice_index front 4 ≡ kind
    → length bytes ≡ 16 → entry_in bytes 0 ≡ e → IsFirst (patched (patched (patched fresh 0 front) 26 (spelt 2 1)) 64 bytes) kind (e ∷ [])
branch_after fresh front bytes kind e l z f is b spells =
    let c = length_spelt 2 1 in
    let one = patched fresh 0 front in
    let two = patched one 26 (spelt 2 1) in
    let new = patched two 64 bytes in
    let l1 : length one ≡ 4096 = length_patched fresh front 0 (omega arith) ∙ l in
    let l2 : length two ≡ 4096 = length_patched one (spelt 2 1) 26 (omega (arith, c)) ∙ l1 in
    let blank : (k : ℕ) → 28 ≤ k → k < 64 → get_or new k 0 ≡ 0 =
    λ k le lt. byte_before two bytes 64 k (omega arith) lt ∙ byte_behind one (spelt 2 1) 26 k (omega arith) (omega (arith, c)) ∙ byte_behind fresh front 0 k (omega arith) (omega (arith, f)) ∙ z k in
    let here : entry_in new 64 ≡ entry_in bytes 0 = same_entry new bytes 64 0 (λ k lt.
    let same : k ≡ 0 + k = omega arith in
    byte_inside two bytes 64 k (omega arith) (omega arith) ∙ ap (λ (o : ℕ). get_or bytes o 0) same) in
    record {
      whole = length_patched two bytes 64 (omega arith) ∙ l2;
      is_of = byte_before two bytes 64 4 (omega arith) (omega arith) ∙ byte_before one (spelt 2 1) 26 4 (omega arith) (omega arith) ∙ byte_inside fresh front 0 4 (omega arith) (omega arith) ∙ is;
      entries = one_entry new e (count_kept two bytes 64 (omega arith) (omega arith) ∙ count_read one 1 (omega arith) (omega arith)) (here ∙ spells);
      low_key = low_zero new blank;
      high_key = high_none new blank;
      right_page = right_zero new blank;
    }

-- ---- a new index

abbrev pub root_patches : ℕ → List Patch
root_patches table =
    front_patch branch (index_page table 1)
    ∷ count_patch (index_page table 1) 1
    ∷ patch_of (index_page table 1) 64 (entry_bytes first_entry)
    ∷ []

abbrev pub leaf_patches : ℕ → List Patch
leaf_patches table = front_patch leaf (index_page table 2) ∷ []

for_root : (table : ℕ) → patches_for (index_page table 1) (format_patches table) ≡ root_patches table
for_root table = let same = eq-eqb (2 * table) (2 * table) refl in rw same refl

for_leaf : (table : ℕ) → patches_for (index_page table 2) (format_patches table) ≡ leaf_patches table
for_leaf table = let same = eq-eqb (2 * table) (2 * table) refl in rw same refl

root_after : (table : ℕ) → IsFirst (all_patched (zeros 4096) (root_patches table)) branch (first_entry ∷ [])
root_after table =
    let spells : entry_in (entry_bytes first_entry) 0 ≡ first_entry =
    ap (λ (ys : List ℕ). entry_in ys 0) (sym (append-nil (entry_bytes first_entry))) ∙ entry_read first_entry [] (omega arith) (omega arith) (omega arith) in
    branch_after (zeros 4096) (front_of branch (index_page table 1)) (entry_bytes first_entry) branch first_entry
    (length_zero 4096) (λ k. zero_byte 4096 k) (length_front branch (index_page table 1)) (front_kind branch (index_page table 1)) (length_entry first_entry) spells

first_leaf_after : (table : ℕ) → IsFirst (all_patched (zeros 4096) (leaf_patches table)) leaf []
first_leaf_after table =
    leaf_after (zeros 4096) (front_of leaf (index_page table 2)) leaf (length_zero 4096) (λ k. zero_byte 4096 k) (length_front leaf (index_page table 2)) (front_kind leaf (index_page table 2))

pub root_first : (table : ℕ) → IsFirst (all_patched (zeros 4096) (patches_for (index_page table 1) (format_patches table))) branch (first_entry ∷ [])
root_first table = subst (λ (ps : List Patch). IsFirst (all_patched (zeros 4096) ps) branch (first_entry ∷ [])) (sym (for_root table)) (root_after table)

pub leaf_first : (table : ℕ) → IsFirst (all_patched (zeros 4096) (patches_for (index_page table 2) (format_patches table))) leaf []
leaf_first table = subst (λ (ps : List Patch). IsFirst (all_patched (zeros 4096) ps) leaf []) (sym (for_leaf table)) (first_leaf_after table)

first_reads : (page new : List ℕ) (kind : ℕ) (es : List Entry) → IsFirst page kind es → length new ≡ 4096 → ReadsAs page new → IsFirst new kind es
first_reads page new kind es h l r = record {
  whole = l;
  is_of = r.kind ∙ h.is_of;
  entries = r.entries ∙ h.entries;
  low_key = r.low_key ∙ h.low_key;
  high_key = r.high_key ∙ h.high_key;
  right_page = r.right_page ∙ h.right_page;
}

first_stamped : (lrsn : ℕ) (p : Patch) (ps : List Patch) (kind : ℕ) (es : List Entry) → AllLieInPage (p ∷ ps) → IsFirst (all_patched (zeros 4096) (p ∷ ps)) kind es → IsFirst (all_stamped lrsn (zeros 4096) (p ∷ ps)) kind es
first_stamped lrsn p ps kind es clear h =
    let new = all_patched (zeros 4096) (p ∷ ps) in
    subst (λ (page : List ℕ). IsFirst page kind es) (sym (stamped_once lrsn (zeros 4096) p ps (length_zero 4096) clear))
    (first_reads new (set_lrsn new lrsn) kind es h (length_stamp new lrsn h.whole) (stamp_reads new lrsn h.whole))

front_clear : (kind table number : ℕ) → LiesInPage (front_patch kind (index_page table number))
front_clear kind table number = let n = length_front kind (index_page table number) in omega (arith, n)

root_clear : (table : ℕ) → AllLieInPage (root_patches table)
root_clear table =
    let c = length_spelt 2 1 in
    let b = length_entry first_entry in
    (front_clear branch table 1, (omega (arith, c), (omega (arith, b), tt)))

pub root_stamped : (table lrsn : ℕ) → IsFirst (all_stamped lrsn (zeros 4096) (patches_for (index_page table 1) (format_patches table))) branch (first_entry ∷ [])
root_stamped table lrsn =
    let entry : Patch = patch_of (index_page table 1) 64 (entry_bytes first_entry) in
    subst (λ (ps : List Patch). IsFirst (all_stamped lrsn (zeros 4096) ps) branch (first_entry ∷ [])) (sym (for_root table))
    (first_stamped lrsn (front_patch branch (index_page table 1)) (count_patch (index_page table 1) 1 ∷ entry ∷ []) branch (first_entry ∷ []) (root_clear table) (root_after table))

pub leaf_stamped : (table lrsn : ℕ) → IsFirst (all_stamped lrsn (zeros 4096) (patches_for (index_page table 2) (format_patches table))) leaf []
leaf_stamped table lrsn =
    subst (λ (ps : List Patch). IsFirst (all_stamped lrsn (zeros 4096) ps) leaf []) (sym (for_leaf table))
    (first_stamped lrsn (front_patch leaf (index_page table 2)) [] leaf [] (front_clear leaf table 2, tt) (first_leaf_after table))

-- ---- their answers

first_look : (page : List ℕ) (kind : ℕ) (es : List Entry) (key : ℕ) → IsFirst page kind es → look_of page key ≡ by_parts false (kind == 4) 0 (floor es key) (find es key)
first_look page kind es key h =
    ap (λ (k : ℕ). by_parts (is_beyond (high_of page) key) (k == 4) (right_field page) (floor (entries_of page) key) (find (entries_of page) key)) h.is_of
    ∙ ap (λ (xs : List Entry). by_parts (is_beyond (high_of page) key) (kind == 4) (right_field page) (floor xs key) (find xs key)) h.entries
    ∙ ap (λ (high : Option ℕ). by_parts (is_beyond high key) (kind == 4) (right_field page) (floor es key) (find es key)) h.high_key

pub root_search : (page : List ℕ) (key : ℕ) → IsFirst page branch (first_entry ∷ []) → look_of page key ≡ Down 2
root_search page key h = let upto = le-leb 0 key (omega arith) in first_look page branch (first_entry ∷ []) key h ∙ rw upto refl

pub leaf_search : (page : List ℕ) (key : ℕ) → IsFirst page leaf [] → look_of page key ≡ Absent
leaf_search page key h = first_look page leaf [] key h

first_node : (page : List ℕ) (kind : ℕ) (es : List Entry) → IsFirst page kind es → IsRising es → length es ≤ 252 → IsNode page
first_node page kind es h s le =
    let count : count_of page ≡ length es = count_is page ∙ ap length h.entries in
    record {
      whole = h.whole;
      room = omega (arith, count);
      rising = subst IsRising (sym h.entries) s;
      from_low = λ e c. subst (λ (b : ℕ). b ≤ e.key) (sym h.low_key) (omega arith);
      below_high = λ e c. ap (λ (o : Option ℕ). is_beyond o e.key) h.high_key;
    }

pub root_node : (page : List ℕ) → IsFirst page branch (first_entry ∷ []) → IsNode page
root_node page h = first_node page branch (first_entry ∷ []) h (tt, tt) (omega arith)

pub leaf_node : (page : List ℕ) → IsFirst page leaf [] → IsNode page
leaf_node page h = first_node page leaf [] h tt (omega arith)
