-- Pages that an image holds, and others.
use Rattle.std.proofs.Common.{◌≡◌, ℕ, ◌+◌, ◌-◌, ◌*◌, ◌<◌, ◌≤◌, Bool, true, false, cond, List, Option, Result, refl, sym, ap, subst, ◌∙◌, arith}
use Rattle.std.specs.Prelude.{◌&&◌, ◌==◌, nat_lt, not, replicate}
use Rattle.std.proofs.lemmas.Bool.Decides.{nat_tests}
use Rattle.ds_base.specs.Pages.{heap_set, index_set, heap_page, index_page}
use Rattle.ds_base.specs.declared.names.PageId.{PageId}
use Rattle.ds_disk.specs.Contents.{Contents}
use Rattle.ds_model.specs.declared.log.LogRecord.{LogRecord}
use Rattle.index_leaf.specs.Changes.{zeros as zero_bytes}
use Rattle.page_format.specs.Fields.{page_size}
use Rattle.page_images.specs.Images.{zeros}
use Rattle.page_redo.specs.Forward.{Forward, brought_forward}
use Rattle.table_copy.specs.declared.fault.CopyFault.{CopyFault}
use Rattle.table_image_text.specs.Image.{heap_in, index_in, page_name, page_in}
use Rattle.copy_recover.specs.Recovered.{is_held_of, holds, is_of_table, is_more, place_in, taken_from, recovered}
use Rattle.copy_recover.specs.Writing.{WritesPage}
use Rattle.copy_recover.proofs.Name_lists.{decide, first_of_both, second_of_both}

eq_self : (m : ℕ) → (m == m) ≡ true
eq_self m = grind (arith, nat_tests)

not_below : (m n : ℕ) → nat_lt m n ≡ false → n ≤ m
not_below m n h = grind (arith, nat_tests)

below : (m n : ℕ) → m < n → nat_lt m n ≡ true
below m n h = grind (arith, nat_tests)

sets_differ : (t : ℕ) → 1 ≤ t → (2 * t == 2 * t - 1) ≡ false
sets_differ t h = grind (arith, nat_tests)

and_true : (a b : Bool) → a ≡ true → b ≡ true → (a && b) ≡ true
and_true true b h k = k
and_true false b h k = absurd cc

and_second : (a b : Bool) → (a && b) ≡ true → b ≡ true
and_second true b h = h
and_second false b h = absurd cc

not_true : (b : Bool) → not b ≡ true → b ≡ false
not_true true h = absurd cc
not_true false h = refl

held_heap : (image : List ℕ) (table n : ℕ) → nat_lt n (heap_in image) ≡ true → taken_from image table (heap_page table n) ≡ page_in image n
held_heap image table n e =
    let held : holds image table (heap_page table n) ≡ true =
    first_of_both (is_held_of (heap_set table) (heap_in image) (heap_page table n)) (is_held_of (index_set table) (index_in image) (heap_page table n)) (and_true (heap_set table == heap_set table) (nat_lt n (heap_in image)) (eq_self (heap_set table)) e)
    in
    ap (λ (b : Bool). cond b (page_in image (place_in image table (heap_page table n))) zeros) held
    ∙ ap (λ (b : Bool). page_in image (cond b n (heap_in image + n))) (eq_self (heap_set table))

held_index : (image : List ℕ) (table n : ℕ) → 1 ≤ table → n < index_in image → taken_from image table (index_page table n) ≡ page_in image (heap_in image + n)
held_index image table n from less =
    let held : holds image table (index_page table n) ≡ true =
    second_of_both (is_held_of (heap_set table) (heap_in image) (index_page table n)) (is_held_of (index_set table) (index_in image) (index_page table n))
    (and_true (index_set table == index_set table) (nat_lt n (index_in image)) (eq_self (index_set table)) (below n (index_in image) less))
    in
    ap (λ (b : Bool). cond b (page_in image (place_in image table (index_page table n))) zeros) held
    ∙ ap (λ (b : Bool). page_in image (cond b n (heap_in image + n))) (sets_differ table from)

pub held_is : (image : List ℕ) (table n : ℕ) → 1 ≤ table → n < heap_in image + index_in image → taken_from image table (page_name table (heap_in image) n) ≡ page_in image n
held_is image table n from less =
    decide (nat_lt n (heap_in image)) _
    (λ e. ap (λ (b : Bool). taken_from image table (cond b (heap_page table n) (index_page table (n - heap_in image)))) e ∙ held_heap image table n e)
    (λ e.
    let le = not_below n (heap_in image) e in
    ap (λ (b : Bool). taken_from image table (cond b (heap_page table n) (index_page table (n - heap_in image)))) e
    ∙ held_index image table (n - heap_in image) from (omega (arith, le, less))
    ∙ ap (λ (m : ℕ). page_in image m) (let same : heap_in image + (n - heap_in image) ≡ n = omega (arith, le) in same))

pub more_is : (image : List ℕ) (table : ℕ) (id : PageId) → is_more image table id ≡ true → taken_from image table id ≡ zeros
more_is image table id h =
    ap (λ (b : Bool). cond b (page_in image (place_in image table id)) zeros) (not_true (holds image table id) (and_second (is_of_table table id) (not (holds image table id)) h))

-- ---- as they are brought forward

recovered_from : (image : List ℕ) (table : ℕ) (records : List LogRecord) (id : PageId) (page : List ℕ) → taken_from image table id ≡ page → brought_forward id page records ≡ recovered image table records id
unfolding recovered
recovered_from image table records id page h = ap (λ (p : List ℕ). brought_forward id p records) (sym h)

pub as_held : (image : List ℕ) (table : ℕ) (records : List LogRecord) (id : PageId) (page : List ℕ) (d0 d1 : Option Contents) (f0 f1 : ℕ) (r : Result Bool CopyFault) → taken_from image table id ≡ page
    → WritesPage d0 d1 f0 f1 id (brought_forward id page records) r → WritesPage d0 d1 f0 f1 id (recovered image table records id) r
as_held image table records id page d0 d1 f0 f1 r h w = subst (λ (x : Forward). WritesPage d0 d1 f0 f1 id x r) (recovered_from image table records id page h) w

pub blank : (page : List ℕ) → page ≡ replicate page_size 0 → page ≡ zeros
unfolding zero_bytes
blank page h = h
