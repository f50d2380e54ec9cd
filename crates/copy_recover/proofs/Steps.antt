-- One page more that is written.
use Rattle.std.proofs.Common.{◌≡◌, ℕ, ◌+◌, ◌<◌, ◌≤◌, Bool, true, false, cond, List, [], ◌∷◌, ◌++◌, take, length, get_or, Option, Ok, Err, sym, ap, subst, ◌∙◌, arith}
use Rattle.std.proofs.lemmas.List.{take_more, take_all}
use Rattle.ds_base.specs.declared.names.PageId.{PageId}
use Rattle.ds_disk.specs.Contents.{Contents}
use Rattle.ds_model.specs.declared.log.LogRecord.{LogRecord}
use Rattle.page_images.specs.Images.{zeros}
use Rattle.page_records.specs.declared.places.PageRecords.{PageRecords}
use Rattle.page_redo.specs.Forward.{brought_forward}
use Rattle.page_redo.specs.Pages.{has_page}
use Rattle.table_image_text.specs.Image.{heap_in, index_in, page_name}
use Rattle.table_copy.specs.declared.fault.CopyFault.{CopyFault}
use Rattle.table_copy.specs.declared.fault.CopyFault.TheVariants as fault
use Rattle.copy_recover.specs.Recovered.{names_in, is_more, more_names, taken_from}
use Rattle.copy_recover.specs.Writing.{held_names, WritesPage, Writes}
use Rattle.copy_recover.proofs.Name_lists.{has_first, one_name, names_below, more_with, more_without, more_in_front}
use Rattle.copy_recover.proofs.Page_steps.{Done, done_none, done_one, done_both, all_done, one_missed, missed_behind, wanting}
use Rattle.copy_recover.proofs.Held.{more_is, as_held}

-- ---- of the image

pub held_more : (image : List ℕ) (table : ℕ) (records : List LogRecord) (heap n some more : ℕ) (is_some : Bool) (id : PageId) (page : List ℕ) (d0 d1 d2 : Option Contents) (f0 f1 f2 : ℕ)
    → heap ≡ heap_in image → id ≡ page_name table (heap_in image) n → page ≡ taken_from image table id → more ≡ some + cond is_some 1 0
    → Done image table records (names_in table heap n) some d0 d1 f0 f1 → WritesPage d1 d2 f1 f2 id (brought_forward id page records) (Ok is_some)
    → Done image table records (names_in table heap (n + 1)) more d0 d2 f0 f2
held_more image table records heap n some more is_some id page d0 d1 d2 f0 f1 f2 heap_is id_is page_is count h w =
    let one = done_one image table records id is_some d1 d2 f1 f2 (as_held image table records id page d1 d2 f1 f2 (Ok is_some) (sym page_is) w) in
    let both = done_both image table records (names_in table heap n) (id ∷ []) some (cond is_some 1 0) d0 d1 d2 f0 f1 f2 h one in
    let name : id ≡ page_name table heap n = id_is ∙ ap (λ (m : ℕ). page_name table m n) (sym heap_is) in
    let named : Done image table records (names_in table heap (n + 1)) (some + cond is_some 1 0) d0 d2 f0 f2 =
    subst (λ (l : List PageId). Done image table records l (some + cond is_some 1 0) d0 d2 f0 f2)
    (ap (λ (p : PageId). names_in table heap n ++ p ∷ []) name ∙ sym (one_name table heap n)) both
    in
    subst (λ (m : ℕ). Done image table records (names_in table heap (n + 1)) m d0 d2 f0 f2) (sym count) named

held_among : (image : List ℕ) (table heap n : ℕ) (id : PageId) → heap ≡ heap_in image → id ≡ page_name table (heap_in image) n → n < heap_in image + index_in image
    → (q : PageId) → has_page (names_in table heap n ++ id ∷ []) q ≡ true → has_page (held_names image table) q ≡ true
held_among image table heap n id heap_is id_is less q h =
    let name : names_in table heap n ++ id ∷ [] ≡ names_in table (heap_in image) (n + 1) =
    ap (λ (m : ℕ). names_in table m n ++ id ∷ []) heap_is ∙ ap (λ (p : PageId). names_in table (heap_in image) n ++ p ∷ []) id_is ∙ sym (one_name table (heap_in image) n)
    in
    names_below table (heap_in image) (n + 1) (heap_in image + index_in image) q (omega (arith, less)) (sym (ap (λ (l : List PageId). has_page l q) name) ∙ h)

pub held_missed : (image : List ℕ) (table : ℕ) (records : List LogRecord) (heap n some : ℕ) (e : CopyFault) (id : PageId) (page : List ℕ) (d0 d1 d2 : Option Contents) (f0 f1 f2 : ℕ)
    → heap ≡ heap_in image → id ≡ page_name table (heap_in image) n → page ≡ taken_from image table id → n < heap_in image + index_in image
    → Done image table records (names_in table heap n) some d0 d1 f0 f1 → WritesPage d1 d2 f1 f2 id (brought_forward id page records) (Err e)
    → Writes d0 d2 f0 f2 image table records (held_names image table) (Err e)
held_missed image table records heap n some e id page d0 d1 d2 f0 f1 f2 heap_is id_is page_is less h w =
    missed_behind image table records (names_in table heap n) (id ∷ []) (held_names image table) some e d0 d1 d2 f0 f1 f2 (held_among image table heap n id heap_is id_is less) h
    (one_missed image table records id e d1 d2 f1 f2 (as_held image table records id page d1 d2 f1 f2 (Err e) (sym page_is) w))

-- memory was wanting behind it
pub held_wanting : (image : List ℕ) (table : ℕ) (records : List LogRecord) (heap n some : ℕ) (is_some : Bool) (id : PageId) (page : List ℕ) (d0 d1 d2 : Option Contents) (f0 f1 f2 : ℕ)
    → heap ≡ heap_in image → id ≡ page_name table (heap_in image) n → page ≡ taken_from image table id → n < heap_in image + index_in image
    → Done image table records (names_in table heap n) some d0 d1 f0 f1 → WritesPage d1 d2 f1 f2 id (brought_forward id page records) (Ok is_some)
    → Writes d0 d2 f0 f2 image table records (held_names image table) (Err fault.NoMemory)
held_wanting image table records heap n some is_some id page d0 d1 d2 f0 f1 f2 heap_is id_is page_is less h w =
    wanting image table records (names_in table heap n ++ id ∷ []) (held_names image table) (some + cond is_some 1 0) d0 d2 f0 f2 (held_among image table heap n id heap_is id_is less)
    (done_both image table records (names_in table heap n) (id ∷ []) some (cond is_some 1 0) d0 d1 d2 f0 f1 f2 h
    (done_one image table records id is_some d1 d2 f1 f2 (as_held image table records id page d1 d2 f1 f2 (Ok is_some) (sym page_is) w)))

-- ---- of those that only records name

one_behind : (changed : List PageRecords) (n : ℕ) (own : PageRecords) → n < length changed → own ≡ get_or changed n own → take (n + 1) changed ≡ take n changed ++ own ∷ []
one_behind changed n own less is = take_more changed n own less ∙ ap (λ (p : PageRecords). take n changed ++ p ∷ []) (sym is)

pub rest_more : (image : List ℕ) (table : ℕ) (records : List LogRecord) (changed : List PageRecords) (n some more : ℕ) (is_some : Bool) (own : PageRecords) (d0 d1 d2 : Option Contents) (f0 f1 f2 : ℕ)
    → n < length changed → own ≡ get_or changed n own → is_more image table own.page ≡ true → more ≡ some + cond is_some 1 0
    → Done image table records (more_names image table (take n changed)) some d0 d1 f0 f1 → WritesPage d1 d2 f1 f2 own.page (brought_forward own.page zeros records) (Ok is_some)
    → Done image table records (more_names image table (take (n + 1) changed)) more d0 d2 f0 f2
rest_more image table records changed n some more is_some own d0 d1 d2 f0 f1 f2 less is own_is count h w =
    let one = done_one image table records own.page is_some d1 d2 f1 f2 (as_held image table records own.page zeros d1 d2 f1 f2 (Ok is_some) (more_is image table own.page own_is) w) in
    let both = done_both image table records (more_names image table (take n changed)) (own.page ∷ []) some (cond is_some 1 0) d0 d1 d2 f0 f1 f2 h one in
    let named : Done image table records (more_names image table (take (n + 1) changed)) (some + cond is_some 1 0) d0 d2 f0 f2 =
    subst (λ (l : List PageId). Done image table records l (some + cond is_some 1 0) d0 d2 f0 f2)
    (sym (ap (λ (l : List PageRecords). more_names image table l) (one_behind changed n own less is) ∙ more_with image table (take n changed) own own_is)) both
    in
    subst (λ (m : ℕ). Done image table records (more_names image table (take (n + 1) changed)) m d0 d2 f0 f2) (sym count) named

pub rest_passed : (image : List ℕ) (table : ℕ) (records : List LogRecord) (changed : List PageRecords) (n some : ℕ) (own : PageRecords) (d0 d1 : Option Contents) (f0 f1 : ℕ)
    → n < length changed → own ≡ get_or changed n own → is_more image table own.page ≡ false
    → Done image table records (more_names image table (take n changed)) some d0 d1 f0 f1 → Done image table records (more_names image table (take (n + 1) changed)) some d0 d1 f0 f1
rest_passed image table records changed n some own d0 d1 f0 f1 less is own_is h =
    subst (λ (l : List PageId). Done image table records l some d0 d1 f0 f1)
    (sym (ap (λ (l : List PageRecords). more_names image table l) (one_behind changed n own less is) ∙ more_without image table (take n changed) own own_is)) h

rest_among : (image : List ℕ) (table : ℕ) (changed : List PageRecords) (n : ℕ) (own : PageRecords) → n < length changed → own ≡ get_or changed n own → is_more image table own.page ≡ true
    → (q : PageId) → has_page (more_names image table (take n changed) ++ own.page ∷ []) q ≡ true → has_page (more_names image table changed) q ≡ true
rest_among image table changed n own less is own_is q h =
    let name : more_names image table (take (n + 1) changed) ≡ more_names image table (take n changed) ++ own.page ∷ [] =
    ap (λ (l : List PageRecords). more_names image table l) (one_behind changed n own less is) ∙ more_with image table (take n changed) own own_is
    in
    more_in_front image table changed (n + 1) q (ap (λ (l : List PageId). has_page l q) name ∙ h)

pub rest_missed : (image : List ℕ) (table : ℕ) (records : List LogRecord) (changed : List PageRecords) (n some : ℕ) (e : CopyFault) (own : PageRecords) (d0 d1 d2 : Option Contents) (f0 f1 f2 : ℕ)
    → n < length changed → own ≡ get_or changed n own → is_more image table own.page ≡ true
    → Done image table records (more_names image table (take n changed)) some d0 d1 f0 f1 → WritesPage d1 d2 f1 f2 own.page (brought_forward own.page zeros records) (Err e)
    → Writes d0 d2 f0 f2 image table records (more_names image table changed) (Err e)
rest_missed image table records changed n some e own d0 d1 d2 f0 f1 f2 less is own_is h w =
    missed_behind image table records (more_names image table (take n changed)) (own.page ∷ []) (more_names image table changed) some e d0 d1 d2 f0 f1 f2
    (rest_among image table changed n own less is own_is) h
    (one_missed image table records own.page e d1 d2 f1 f2 (as_held image table records own.page zeros d1 d2 f1 f2 (Err e) (more_is image table own.page own_is) w))

pub rest_wanting : (image : List ℕ) (table : ℕ) (records : List LogRecord) (changed : List PageRecords) (n some : ℕ) (is_some : Bool) (own : PageRecords) (d0 d1 d2 : Option Contents) (f0 f1 f2 : ℕ)
    → n < length changed → own ≡ get_or changed n own → is_more image table own.page ≡ true
    → Done image table records (more_names image table (take n changed)) some d0 d1 f0 f1 → WritesPage d1 d2 f1 f2 own.page (brought_forward own.page zeros records) (Ok is_some)
    → Writes d0 d2 f0 f2 image table records (more_names image table changed) (Err fault.NoMemory)
rest_wanting image table records changed n some is_some own d0 d1 d2 f0 f1 f2 less is own_is h w =
    wanting image table records (more_names image table (take n changed) ++ own.page ∷ []) (more_names image table changed) (some + cond is_some 1 0) d0 d2 f0 f2
    (rest_among image table changed n own less is own_is)
    (done_both image table records (more_names image table (take n changed)) (own.page ∷ []) some (cond is_some 1 0) d0 d1 d2 f0 f1 f2 h
    (done_one image table records own.page is_some d1 d2 f1 f2 (as_held image table records own.page zeros d1 d2 f1 f2 (Ok is_some) (more_is image table own.page own_is) w)))

pub rest_done : (image : List ℕ) (table : ℕ) (records : List LogRecord) (changed : List PageRecords) (n some : ℕ) (d0 d1 : Option Contents) (f0 f1 : ℕ) → length changed ≤ n
    → Done image table records (more_names image table (take n changed)) some d0 d1 f0 f1 → Done image table records (more_names image table changed) some d0 d1 f0 f1
rest_done image table records changed n some d0 d1 f0 f1 le h = subst (λ (l : List PageRecords). Done image table records (more_names image table l) some d0 d1 f0 f1) (take_all n changed le) h

-- ---- all of them

pub none_wanting : (image : List ℕ) (table : ℕ) (records : List LogRecord) (names : List PageId) (d : Option Contents) (f : ℕ) → Writes d d f f image table records names (Err fault.NoMemory)
none_wanting image table records names d f = wanting image table records [] names 0 d d f f (λ q h. absurd cc) (done_none image table records d f)

pub held_done : (image : List ℕ) (table : ℕ) (records : List LogRecord) (heap n some : ℕ) (d0 d1 : Option Contents) (f0 f1 : ℕ) → heap ≡ heap_in image → n ≡ heap_in image + index_in image
    → Done image table records (names_in table heap n) some d0 d1 f0 f1 → Writes d0 d1 f0 f1 image table records (held_names image table) (Ok some)
held_done image table records heap n some d0 d1 f0 f1 heap_is count h =
    all_done image table records (held_names image table) some d0 d1 f0 f1
    (subst (λ (l : List PageId). Done image table records l some d0 d1 f0 f1)
    (ap (λ (m : ℕ). names_in table m n) heap_is ∙ ap (λ (m : ℕ). names_in table (heap_in image) m) count) h)

pub all_rest : (image : List ℕ) (table : ℕ) (records : List LogRecord) (changed : List PageRecords) (n some : ℕ) (d0 d1 : Option Contents) (f0 f1 : ℕ) → length changed ≤ n
    → Done image table records (more_names image table (take n changed)) some d0 d1 f0 f1 → Writes d0 d1 f0 f1 image table records (more_names image table changed) (Ok some)
all_rest image table records changed n some d0 d1 f0 f1 le h = all_done image table records (more_names image table changed) some d0 d1 f0 f1 (rest_done image table records changed n some d0 d1 f0 f1 le h)

-- what was written, as it was told
pub told_done : (image : List ℕ) (table : ℕ) (records : List LogRecord) (names : List PageId) (count : ℕ) (d0 d1 : Option Contents) (f0 f1 : ℕ) → Writes d0 d1 f0 f1 image table records names (Ok count)
    → Done image table records names count d0 d1 f0 f1
told_done image table records names count d0 d1 f0 f1 h = record { written = h.ok.0; ok = h.ok.1; counted = h.ok.2; later = h.later }

-- the pages of the image, and then the others
pub both_done : (image : List ℕ) (table : ℕ) (records : List LogRecord) (a b : List PageId) (m n count : ℕ) (d0 d1 d2 : Option Contents) (f0 f1 f2 : ℕ) → count ≡ m + n
    → Writes d0 d1 f0 f1 image table records a (Ok m) → Writes d1 d2 f1 f2 image table records b (Ok n) → Writes d0 d2 f0 f2 image table records (a ++ b) (Ok count)
both_done image table records a b m n count d0 d1 d2 f0 f1 f2 is h k =
    all_done image table records (a ++ b) count d0 d2 f0 f2
    (subst (λ (x : ℕ). Done image table records (a ++ b) x d0 d2 f0 f2) (sym is)
    (done_both image table records a b m n d0 d1 d2 f0 f1 f2 (told_done image table records a m d0 d1 f0 f1 h) (told_done image table records b n d1 d2 f1 f2 k)))

pub both_wanting : (image : List ℕ) (table : ℕ) (records : List LogRecord) (a b : List PageId) (m n : ℕ) (d0 d1 d2 : Option Contents) (f0 f1 f2 : ℕ)
    → Writes d0 d1 f0 f1 image table records a (Ok m) → Writes d1 d2 f1 f2 image table records b (Ok n) → Writes d0 d2 f0 f2 image table records (a ++ b) (Err fault.NoMemory)
both_wanting image table records a b m n d0 d1 d2 f0 f1 f2 h k =
    wanting image table records (a ++ b) (a ++ b) (m + n) d0 d2 f0 f2 (λ q t. t)
    (done_both image table records a b m n d0 d1 d2 f0 f1 f2 (told_done image table records a m d0 d1 f0 f1 h) (told_done image table records b n d1 d2 f1 f2 k))

-- a page of the first wasn't written
pub first_missed : (image : List ℕ) (table : ℕ) (records : List LogRecord) (a b : List PageId) (e : CopyFault) (d0 d1 : Option Contents) (f0 f1 : ℕ)
    → Writes d0 d1 f0 f1 image table records a (Err e) → Writes d0 d1 f0 f1 image table records (a ++ b) (Err e)
first_missed image table records a b e d0 d1 f0 f1 h =
    missed_behind image table records [] a (a ++ b) 0 e d0 d0 d1 f0 f0 f1 (λ q t. has_first a b q t) (done_none image table records d0 f0) h

-- or one of the others
pub second_missed : (image : List ℕ) (table : ℕ) (records : List LogRecord) (a b : List PageId) (m : ℕ) (e : CopyFault) (d0 d1 d2 : Option Contents) (f0 f1 f2 : ℕ)
    → Writes d0 d1 f0 f1 image table records a (Ok m) → Writes d1 d2 f1 f2 image table records b (Err e) → Writes d0 d2 f0 f2 image table records (a ++ b) (Err e)
second_missed image table records a b m e d0 d1 d2 f0 f1 f2 h k =
    missed_behind image table records a b (a ++ b) m e d0 d1 d2 f0 f1 f2 (λ q t. t) (told_done image table records a m d0 d1 f0 f1 h) k
