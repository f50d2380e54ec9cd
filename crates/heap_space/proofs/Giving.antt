-- What the patches of a given slot leave.
use Rattle.std.proofs.Common.{◌≡◌, ◌≤◌, ◌<◌, ◌^◌, ◌*◌, ℕ, ◌+◌, ◌-◌, ◌⊎◌, inl, inr, Bool, true, false, ◌&&◌, ◌==◌, if◌then◌else◌, List, [], ◌∷◌, ◌++◌, length, take, drop, None, refl, sym, ap, ◌∙◌, arith}
use Rattle.std.proofs.lemmas.Bool.{eq-eqb, ne_eqb}
use Rattle.std.proofs.lemmas.List.{drop-drop, drop-take}
use Rattle.byteorder.specs.Endian.{big_bytes, big_number}
use Rattle.byteorder.specs.Numbers.{big_number-reads_back, big_from-take}
use Rattle.ds_base.specs.declared.names.PageId.{PageId}
use Rattle.ds_base.specs.declared.names.Place.{Place}
use Rattle.page_format.specs.Fields.{number_in, count_at}
use Rattle.page_format.specs.declared.patch.Patch.{Patch}
use Rattle.heap_space.specs.Layout.{slot_at}
use Rattle.heap_space.specs.Slots.{image, slot_in}
use Rattle.heap_space.specs.Next.{last_page_of, given_of}
use Rattle.ds_base.specs.Pages.{same_page, heap_page}
use Rattle.heap_space.specs.Changes.{front_patch, front_patches, last_patch, count_patch, slot_patch, give_patches}
use Rattle.heap_space.specs.Written.{after_patch, written}
use Rattle.heap_space.proofs.Parts.{part, Lies, number_of_part, step_length, step_kept, step_put}

-- ---- which patches belong to a page

passed : (id : PageId) (lrsn : ℕ) (patch : Patch) (rest : List Patch) (page : List ℕ) → same_page patch.page id ≡ false → written id lrsn (patch ∷ rest) page ≡ written id lrsn rest page
passed id lrsn patch rest page other =
    ap (λ (b : Bool). written id lrsn rest (if b then after_patch lrsn page patch else page)) other

taken : (id : PageId) (lrsn : ℕ) (patch : Patch) (rest : List Patch) (page : List ℕ) → same_page patch.page id ≡ true → written id lrsn (patch ∷ rest) page ≡ written id lrsn rest (after_patch lrsn page patch)
taken id lrsn patch rest page same =
    ap (λ (b : Bool). written id lrsn rest (if b then after_patch lrsn page patch else page)) same

both : (p q : Bool) → p ≡ true → q ≡ true → (p && q) ≡ true
both p q hp hq = grind (arith, hp, hq)

neither : (p q : Bool) → q ≡ false → (p && q) ≡ false
neither true q h = h
neither false q h = refl

same : (table n : ℕ) → same_page (heap_page table n) (heap_page table n) ≡ true
same table n = both _ _ (eq-eqb (2 * table - 1) (2 * table - 1) refl) (eq-eqb n n refl)

apart : (table m n : ℕ) → (m ≡ n → ⊥) → same_page (heap_page table m) (heap_page table n) ≡ false
apart table m n ne = neither _ _ (ne_eqb m n ne)

front_passed : (b : Bool) (id : PageId) (lrsn : ℕ) (patch : Patch) (rest : List Patch) (page : List ℕ) → same_page patch.page id ≡ false → written id lrsn ((if b then patch ∷ [] else []) ++ rest) page ≡ written id lrsn rest page
front_passed true id lrsn patch rest page other = passed id lrsn patch rest page other
front_passed false id lrsn patch rest page other = refl

-- ---- the header page

header_after : (table : ℕ) (place : Place) (key lrsn : ℕ) (header : List ℕ) → 1 ≤ place.page → written (heap_page table 0) lrsn (give_patches table place key) header ≡ after_patch lrsn header (last_patch table place)
unfolding give_patches
header_after table place key lrsn header h =
    let id = heap_page table 0 in
    let other = apart table place.page 0 (λ e. omega (arith, e, h)) in
    let tail : List Patch = count_patch table place ∷ slot_patch table place key ∷ [] in
    let after = after_patch lrsn header (last_patch table place) in
    taken id lrsn (last_patch table place) (front_patches table place ++ tail) header (same table 0)
    ∙ front_passed (place.slot == 0) id lrsn (front_patch 2 (heap_page table place.page)) tail after other
    ∙ passed id lrsn (count_patch table place) (slot_patch table place key ∷ []) after other
    ∙ passed id lrsn (slot_patch table place key) [] after other

last_bytes : (table : ℕ) (place : Place) (key lrsn : ℕ) (header : List ℕ) → 1 ≤ place.page → length header ≡ 4096 → part 32 6 (written (heap_page table 0) lrsn (give_patches table place key) header) ≡ big_bytes 4 place.page ++ big_bytes 2 (place.slot + 1)
last_bytes table place key lrsn header h whole =
    let patch = last_patch table place in
    ap (λ (page : List ℕ). part 32 6 page) (header_after table place key lrsn header h)
    ∙ step_put lrsn header patch (record { whole = whole; within = omega arith }) (omega arith)

pub last_back : (table : ℕ) (place : Place) (key lrsn : ℕ) (header : List ℕ) → 1 ≤ place.page → place.page < 2 ^ 32 → length header ≡ 4096 → last_page_of (written (heap_page table 0) lrsn (give_patches table place key) header) ≡ place.page
last_back table place key lrsn header h lt whole =
    let after = written (heap_page table 0) lrsn (give_patches table place key) header in
    sym (big_from-take 0 4 6 (drop 32 after) (omega arith))
    ∙ ap (big_number 4) (last_bytes table place key lrsn header h whole)
    ∙ big_number-reads_back 4 place.page (big_bytes 2 (place.slot + 1)) lt

pub given_back : (table : ℕ) (place : Place) (key lrsn : ℕ) (header : List ℕ) → 1 ≤ place.page → place.slot < 31 → length header ≡ 4096 → given_of (written (heap_page table 0) lrsn (give_patches table place key) header) ≡ place.slot + 1
given_back table place key lrsn header h lt whole =
    let after = written (heap_page table 0) lrsn (give_patches table place key) header in
    number_of_part after 36 2
    ∙ ap (λ (l : List ℕ). big_number 2 (take 2 l)) (sym (drop-drop 4 32 after))
    ∙ ap (big_number 2) (sym (drop-take 4 2 (drop 32 after)) ∙ ap (λ (l : List ℕ). drop 4 l) (last_bytes table place key lrsn header h whole))
    ∙ big_number-reads_back 2 (place.slot + 1) [] (omega (arith, lt))

-- ---- the page of rows

front_taken : (b : Bool) (id : PageId) (lrsn : ℕ) (patch : Patch) (rest : List Patch) (page : List ℕ) → same_page patch.page id ≡ true → written id lrsn ((if b then patch ∷ [] else []) ++ rest) page ≡ written id lrsn rest (if b then after_patch lrsn page patch else page)
front_taken true id lrsn patch rest page same = taken id lrsn patch rest page same
front_taken false id lrsn patch rest page same = refl

front_length : (b : Bool) (lrsn : ℕ) (page : List ℕ) (patch : Patch) → Lies page patch → length (if b then after_patch lrsn page patch else page) ≡ 4096
front_length true lrsn page patch h = step_length lrsn page patch h
front_length false lrsn page patch h = h.whole

front_kept : (b : Bool) (lrsn : ℕ) (page : List ℕ) (patch : Patch) (at width : ℕ) → Lies page patch → 26 ≤ at → patch.offset + length patch.bytes ≤ at → part at width (if b then after_patch lrsn page patch else page) ≡ part at width page
front_kept true lrsn page patch at width h free past = step_kept lrsn page patch at width h free (inr past)
front_kept false lrsn page patch at width h free past = refl

-- the page with its front, where the slot is the first
abbrev fronted : ℕ → Place → ℕ → List ℕ → List ℕ
fronted table place lrsn page = if place.slot == 0 then after_patch lrsn page (front_patch 2 (heap_page table place.page)) else page

abbrev counted : ℕ → Place → ℕ → List ℕ → List ℕ
counted table place lrsn page = after_patch lrsn (fronted table place lrsn page) (count_patch table place)

rows_after : (table : ℕ) (place : Place) (key lrsn : ℕ) (page : List ℕ) → 1 ≤ place.page → written (heap_page table place.page) lrsn (give_patches table place key) page ≡ after_patch lrsn (counted table place lrsn page) (slot_patch table place key)
unfolding give_patches
rows_after table place key lrsn page h =
    let id = heap_page table place.page in
    let mine = same table place.page in
    let tail : List Patch = count_patch table place ∷ slot_patch table place key ∷ [] in
    passed id lrsn (last_patch table place) (front_patches table place ++ tail) page (apart table 0 place.page (λ e. omega (arith, e, h)))
    ∙ front_taken (place.slot == 0) id lrsn (front_patch 2 id) tail page mine
    ∙ taken id lrsn (count_patch table place) (slot_patch table place key ∷ []) (fronted table place lrsn page) mine
    ∙ taken id lrsn (slot_patch table place key) [] (counted table place lrsn page) mine

front_lies : (table : ℕ) (place : Place) (page : List ℕ) → length page ≡ 4096 → Lies page (front_patch 2 (heap_page table place.page))
front_lies table place page whole = record { whole = whole; within = omega arith }

count_lies : (table : ℕ) (place : Place) (lrsn : ℕ) (page : List ℕ) → length page ≡ 4096 → Lies (fronted table place lrsn page) (count_patch table place)
count_lies table place lrsn page whole = record {
  whole = front_length (place.slot == 0) lrsn page (front_patch 2 (heap_page table place.page)) (front_lies table place page whole);
  within = omega arith;
}

slot_lies : (table : ℕ) (place : Place) (key lrsn : ℕ) (page : List ℕ) → place.slot < 31 → length page ≡ 4096 → Lies (counted table place lrsn page) (slot_patch table place key)
slot_lies table place key lrsn page lt whole = record {
  whole = step_length lrsn (fronted table place lrsn page) (count_patch table place) (count_lies table place lrsn page whole);
  within = omega (arith, lt);
}

pub slot_back : (table : ℕ) (place : Place) (key lrsn : ℕ) (page : List ℕ) → 1 ≤ place.page → place.slot < 31 → length page ≡ 4096 → slot_in (written (heap_page table place.page) lrsn (give_patches table place key) page) place.slot ≡ image key None
slot_back table place key lrsn page h lt whole =
    ap (λ (after : List ℕ). slot_in after place.slot) (rows_after table place key lrsn page h)
    ∙ step_put lrsn (counted table place lrsn page) (slot_patch table place key) (slot_lies table place key lrsn page lt whole) (omega arith)

pub count_back : (table : ℕ) (place : Place) (key lrsn : ℕ) (page : List ℕ) → 1 ≤ place.page → place.slot < 31 → length page ≡ 4096 → number_in (written (heap_page table place.page) lrsn (give_patches table place key) page) count_at 2 ≡ place.slot + 1
count_back table place key lrsn page h lt whole =
    ap (λ (after : List ℕ). number_in after count_at 2) (rows_after table place key lrsn page h)
    ∙ number_of_part (after_patch lrsn (counted table place lrsn page) (slot_patch table place key)) count_at 2
    ∙ ap (big_number 2) (step_kept lrsn (counted table place lrsn page) (slot_patch table place key) count_at 2 (slot_lies table place key lrsn page lt whole) (omega arith) (inl (omega arith))
    ∙ step_put lrsn (fronted table place lrsn page) (count_patch table place) (count_lies table place lrsn page whole) (omega arith))
    ∙ big_number-reads_back 2 (place.slot + 1) [] (omega (arith, lt))

slots_apart : (s other : ℕ) → (other < s) ⊎ (s < other) → (slot_at other + 128 ≤ slot_at s) ⊎ (slot_at s + 128 ≤ slot_at other)
slots_apart s other (inl lt) = inl (omega (arith, lt))
slots_apart s other (inr lt) = inr (omega (arith, lt))

pub others_kept : (table : ℕ) (place : Place) (key lrsn : ℕ) (page : List ℕ) (other : ℕ) → 1 ≤ place.page → place.slot < 31 → length page ≡ 4096 → (other < place.slot) ⊎ (place.slot < other) → slot_in (written (heap_page table place.page) lrsn (give_patches table place key) page) other ≡ slot_in page other
others_kept table place key lrsn page other h lt whole ne =
    ap (λ (after : List ℕ). slot_in after other) (rows_after table place key lrsn page h)
    ∙ step_kept lrsn (counted table place lrsn page) (slot_patch table place key) (slot_at other) 128 (slot_lies table place key lrsn page lt whole) (omega arith) (slots_apart place.slot other ne)
    ∙ step_kept lrsn (fronted table place lrsn page) (count_patch table place) (slot_at other) 128 (count_lies table place lrsn page whole) (omega arith) (inr (omega arith))
    ∙ front_kept (place.slot == 0) lrsn page (front_patch 2 (heap_page table place.page)) (slot_at other) 128 (front_lies table place page whole) (omega arith) (omega arith)
