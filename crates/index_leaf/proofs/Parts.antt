-- What is read of the two pages after a split.
use Rattle.std.proofs.Common.{◌≡◌, ℕ, ◌+◌, ◌-◌, ◌*◌, ◌^◌, ◌<◌, ◌≤◌, refl, sym, ap, ◌∙◌, subst, arith, List, [], ◌∷◌, ◌++◌, length, get_or, take, drop, append_assoc, Some, None, if◌then◌else◌}
use Rattle.std.specs.Prelude.{◌==◌, slice_index, slice_range, Result, Ok, Err, IfOk}
use Rattle.std.proofs.lemmas.List.{append-nil, get_or_append_left, get_or-append_right, length-append, length-replicate}
use Rattle.std.proofs.lemmas.List.Edits.{length-between, get_or-between}
use Rattle.page_format.specs.Fields.{number_in, patched}
use Rattle.index_leaf.specs.Entries.{count_of, low_of, high_of, high_field, right_field, entries_from, entries_of}
use Rattle.index_leaf.specs.Changes.{spelt, zeros, link_bytes, fields_bytes, half_bytes, low_of_split, front_of, right_id, left_patches, right_patches, all_patched, IsLeftOf, IsRightOf}
use Rattle.ds_base.specs.declared.names.PageId.{PageId}
use Rattle.page_format.specs.declared.patch.Patch.{Patch}
use Rattle.index_leaf.specs.declared.growth.Split.{Split}
use Rattle.index_leaf.proofs.Writes.{length_patched, byte_before, byte_inside, byte_behind, length_spelt, same_number, same_entries, number_before, number_inside, number_behind, count_read, count_kept, read_at}
use Rattle.index_leaf.proofs.Enlarged.{take_entries, drop_entries}

-- ---- the left page

abbrev pub left_after : List ℕ → ℕ → ℕ → ℕ → List ℕ
left_after left h high number = patched (patched (patched left 26 (spelt 2 h)) 40 (link_bytes high number)) (64 + 16 * h) (zeros (16 * h))

pub length_link : (high number : ℕ) → length (link_bytes high number) ≡ 16
unfolding link_bytes
length_link high number =
    let k = length_spelt 8 high in
    let r = length_spelt 4 number in
    simp length-append (omega (arith, k, r))

pub length_zeros : (n : ℕ) → length (zeros n) ≡ n
unfolding zeros
length_zeros n = length-replicate n 0

link_high : (high number : ℕ) → high < 256 ^ 8 → number_in (link_bytes high number) 0 8 ≡ high
unfolding link_bytes
link_high high number h =
    let z : List ℕ = 1 ∷ 0 ∷ 0 ∷ 0 ∷ [] in
    let e : link_bytes high number ≡ [] ++ (spelt 8 high ++ (z ++ spelt 4 number)) = append_assoc (spelt 8 high) z (spelt 4 number) in
    ap (λ (ys : List ℕ). number_in ys 0 8) e ∙ read_at [] (z ++ spelt 4 number) 0 8 high refl h

link_right : (high number : ℕ) → number < 256 ^ 4 → number_in (link_bytes high number) 12 4 ≡ number
unfolding link_bytes
link_right high number h =
    let z : List ℕ = 1 ∷ 0 ∷ 0 ∷ 0 ∷ [] in
    let k = length_spelt 8 high in
    let l = length-append (spelt 8 high) z in
    let e : link_bytes high number ≡ (spelt 8 high ++ z) ++ (spelt 4 number ++ []) = ap (λ (ys : List ℕ). (spelt 8 high ++ z) ++ ys) (sym (append-nil (spelt 4 number))) in
    ap (λ (ys : List ℕ). number_in ys 12 4) e ∙ read_at (spelt 8 high ++ z) [] 12 4 number (omega (arith, k, l)) h

link_mark : (high number : ℕ) → get_or (link_bytes high number) 8 0 ≡ 1
unfolding link_bytes
link_mark high number =
    let z : List ℕ = 1 ∷ 0 ∷ 0 ∷ 0 ∷ [] in
    let k = length_spelt 8 high in
    let l = length-append (spelt 8 high) z in
    get_or_append_left (spelt 8 high ++ z) (spelt 4 number) 0 8 (omega (arith, k, l))
    ∙ get_or-append_right (spelt 8 high) z 8 8 0 k (omega arith)

-- the lengths of the page between the patches
left_lengths : (left : List ℕ) (h high number : ℕ) → length left ≡ 4096
    → (length (patched left 26 (spelt 2 h)) ≡ 4096) × (length (patched (patched left 26 (spelt 2 h)) 40 (link_bytes high number)) ≡ 4096)
left_lengths left h high number l =
    let c = length_spelt 2 h in
    let k = length_link high number in
    let one : length (patched left 26 (spelt 2 h)) ≡ length left = length_patched left (spelt 2 h) 26 (omega (arith, c)) in
    let two : length (patched (patched left 26 (spelt 2 h)) 40 (link_bytes high number)) ≡ length (patched left 26 (spelt 2 h)) = length_patched (patched left 26 (spelt 2 h)) (link_bytes high number) 40 (omega (arith, k, one)) in
    (one ∙ l, two ∙ (one ∙ l))

pub left_entries : (left : List ℕ) (h high number : ℕ) → h ≡ 126 → length left ≡ 4096 → count_of left ≡ h + h → entries_of (left_after left h high number) ≡ take h (entries_of left)
left_entries left h high number is l full =
    let ls = left_lengths left h high number l in
    let one = patched left 26 (spelt 2 h) in
    let two = patched one 40 (link_bytes high number) in
    let new = left_after left h high number in
    let l1 : length one ≡ 4096 = ls.0 in
    let l2 : length two ≡ 4096 = ls.1 in
    let c = length_spelt 2 h in
    let k = length_link high number in
    let count : count_of new ≡ h =
    count_kept two (zeros (16 * h)) (64 + 16 * h) (omega arith) (omega arith)
    ∙ count_kept one (link_bytes high number) 40 (omega arith) (omega arith)
    ∙ count_read left h (omega arith) (omega arith) in
    ap (entries_from new 64) count
    ∙ same_entries h new left 64 64 (λ i lt.
    byte_before two (zeros (16 * h)) (64 + 16 * h) (64 + i) (omega arith) (omega arith)
    ∙ byte_behind one (link_bytes high number) 40 (64 + i) (omega arith) (omega (arith, k))
    ∙ byte_behind left (spelt 2 h) 26 (64 + i) (omega arith) (omega (arith, c)))
    ∙ sym (ap (λ (n : ℕ). take h (entries_from left 64 n)) full ∙ take_entries left 64 h h)

-- the numbers that the link holds
left_number : (left : List ℕ) (h high number offset width : ℕ) → h ≡ 126 → length left ≡ 4096 → offset + width ≤ 16 → number_in (left_after left h high number) (40 + offset) width ≡ number_in (link_bytes high number) offset width
left_number left h high number offset width is l le =
    let ls = left_lengths left h high number l in
    let one = patched left 26 (spelt 2 h) in
    let two = patched one 40 (link_bytes high number) in
    let l1 : length one ≡ 4096 = ls.0 in
    let l2 : length two ≡ 4096 = ls.1 in
    let k = length_link high number in
    number_before two (zeros (16 * h)) (64 + 16 * h) (40 + offset) width (omega arith) (omega arith)
    ∙ number_inside one (link_bytes high number) 40 offset width (omega arith) (omega (arith, k))

pub left_right : (left : List ℕ) (h high number : ℕ) → h ≡ 126 → length left ≡ 4096 → number < 256 ^ 4 → right_field (left_after left h high number) ≡ number
unfolding right_field
left_right left h high number is l lt = left_number left h high number 12 4 is l (omega arith) ∙ link_right high number lt

left_field : (left : List ℕ) (h high number : ℕ) → h ≡ 126 → length left ≡ 4096 → high < 256 ^ 8 → high_field (left_after left h high number) ≡ high
unfolding high_field
left_field left h high number is l lt = left_number left h high number 0 8 is l (omega arith) ∙ link_high high number lt

left_mark : (left : List ℕ) (h high number : ℕ) → h ≡ 126 → length left ≡ 4096 → slice_index (left_after left h high number) 48 ≡ 1
left_mark left h high number is l =
    let ls = left_lengths left h high number l in
    let one = patched left 26 (spelt 2 h) in
    let two = patched one 40 (link_bytes high number) in
    let l1 : length one ≡ 4096 = ls.0 in
    let l2 : length two ≡ 4096 = ls.1 in
    let k = length_link high number in
    byte_before two (zeros (16 * h)) (64 + 16 * h) 48 (omega arith) (omega arith)
    ∙ byte_inside one (link_bytes high number) 40 8 (omega arith) (omega (arith, k))
    ∙ link_mark high number

pub left_high : (left : List ℕ) (h high number : ℕ) → h ≡ 126 → length left ≡ 4096 → high < 256 ^ 8 → high_of (left_after left h high number) ≡ Some high
left_high left h high number is l lt =
    ap (λ (b : ℕ). if b == 1 then Some (high_field (left_after left h high number)) else None) (left_mark left h high number is l)
    ∙ ap Some (left_field left h high number is l lt)

left_low : (left : List ℕ) (h high number : ℕ) → h ≡ 126 → length left ≡ 4096 → low_of (left_after left h high number) ≡ low_of left
unfolding low_of
left_low left h high number is l =
    let ls = left_lengths left h high number l in
    let one = patched left 26 (spelt 2 h) in
    let two = patched one 40 (link_bytes high number) in
    let l1 : length one ≡ 4096 = ls.0 in
    let l2 : length two ≡ 4096 = ls.1 in
    let c = length_spelt 2 h in
    number_before two (zeros (16 * h)) (64 + 16 * h) 32 8 (omega arith) (omega arith)
    ∙ number_before one (link_bytes high number) 40 32 8 (omega arith) (omega arith)
    ∙ number_behind left (spelt 2 h) 26 32 8 (omega arith) (omega (arith, c))

left_whole : (left : List ℕ) (h high number : ℕ) → h ≡ 126 → length left ≡ 4096 → length (left_after left h high number) ≡ 4096
left_whole left h high number is l =
    let ls = left_lengths left h high number l in
    let two = patched (patched left 26 (spelt 2 h)) 40 (link_bytes high number) in
    let l2 : length two ≡ 4096 = ls.1 in
    let z = length_zeros (16 * h) in
    length_patched two (zeros (16 * h)) (64 + 16 * h) (omega (arith, l2, z)) ∙ l2

left_kind : (left : List ℕ) (h high number : ℕ) → h ≡ 126 → length left ≡ 4096 → slice_index (left_after left h high number) 4 ≡ slice_index left 4
left_kind left h high number is l =
    let ls = left_lengths left h high number l in
    let one = patched left 26 (spelt 2 h) in
    let two = patched one 40 (link_bytes high number) in
    let l1 : length one ≡ 4096 = ls.0 in
    let l2 : length two ≡ 4096 = ls.1 in
    byte_before two (zeros (16 * h)) (64 + 16 * h) 4 (omega arith) (omega arith)
    ∙ byte_before one (link_bytes high number) 40 4 (omega arith) (omega arith)
    ∙ byte_before left (spelt 2 h) 26 4 (omega arith) (omega arith)

pub left_is : (left : List ℕ) (number : ℕ) → length left ≡ 4096 → count_of left ≡ 252 → low_of_split left < 256 ^ 8 → number < 256 ^ 4 → IsLeftOf left (left_after left 126 (low_of_split left) number) (low_of_split left) number
left_is left number l full low lt = record {
  whole = left_whole left 126 (low_of_split left) number refl l;
  kind = left_kind left 126 (low_of_split left) number refl l;
  entries = left_entries left 126 (low_of_split left) number refl l full;
  low_key = left_low left 126 (low_of_split left) number refl l;
  high_key = left_high left 126 (low_of_split left) number refl l low;
  right_page = left_right left 126 (low_of_split left) number refl l lt;
}

pub left_if : {E : Type 0} (left : List ℕ) (number : ℕ) (r : Result Split E) → length left ≡ 4096 → count_of left ≡ 252 → low_of_split left < 256 ^ 8 → number < 256 ^ 4
    → IfOk r (λ s. s.left ≡ left_patches left number) → IfOk r (λ s. s.low ≡ low_of_split left)
    → IfOk r (λ s. IsLeftOf left (all_patched left s.left) s.low number)
left_if left number (Ok s) l full low lt patches is =
    subst (λ (ps : List Patch). IsLeftOf left (all_patched left ps) s.low number) (sym patches)
    (subst (λ (n : ℕ). IsLeftOf left (all_patched left (left_patches left number)) n number) (sym is) (left_is left number l full low lt))
left_if left number (Err x) l full low lt patches is = tt

-- ---- the right page

abbrev pub right_after : List ℕ → List ℕ → List ℕ → ℕ → List ℕ
right_after left fresh front h = patched (patched (patched (patched fresh 0 front) 26 (spelt 2 h)) 32 (fields_bytes left)) 64 (half_bytes left)

pub length_fields : (left : List ℕ) → length left ≡ 4096 → length (fields_bytes left) ≡ 24
unfolding fields_bytes
length_fields left l =
    let k = length_spelt 8 (low_of_split left) in
    let r = length-between left 40 56 (omega arith) in
    let a = length-append (spelt 8 (low_of_split left)) (slice_range left 40 56) in
    omega (arith, k, r, a)

pub length_half : (left : List ℕ) → length left ≡ 4096 → length (half_bytes left) ≡ 2016
unfolding half_bytes
length_half left l = let r = length-between left 2080 4096 (omega arith) in omega (arith, r)

fields_low : (left : List ℕ) → low_of_split left < 256 ^ 8 → number_in (fields_bytes left) 0 8 ≡ low_of_split left
unfolding fields_bytes
fields_low left lt = read_at [] (slice_range left 40 56) 0 8 (low_of_split left) refl lt

fields_byte : (left : List ℕ) (k : ℕ) → k < 16 → get_or (fields_bytes left) (8 + k) 0 ≡ get_or left (40 + k) 0
unfolding fields_bytes
fields_byte left k lt =
    let there : 8 + k - 8 ≡ k = omega arith in
    get_or-append_right (spelt 8 (low_of_split left)) (slice_range left 40 56) 8 (8 + k) 0 (length_spelt 8 (low_of_split left)) (omega arith)
    ∙ ap (λ (o : ℕ). get_or (slice_range left 40 56) o 0) there
    ∙ get_or-between left 40 56 k 0 (omega arith)

half_byte : (left : List ℕ) (k : ℕ) → k < 2016 → get_or (half_bytes left) k 0 ≡ get_or left (2080 + k) 0
unfolding half_bytes
half_byte left k lt = get_or-between left 2080 4096 k 0 (omega arith)

pub record Lengths (left fresh front : List ℕ) (h : ℕ) : Type 0 where
  pub one : length (patched fresh 0 front) ≡ 4096
  pub two : length (patched (patched fresh 0 front) 26 (spelt 2 h)) ≡ 4096
  pub three : length (patched (patched (patched fresh 0 front) 26 (spelt 2 h)) 32 (fields_bytes left)) ≡ 4096

right_lengths : (left fresh front : List ℕ) (h : ℕ) → length left ≡ 4096 → length fresh ≡ 4096 → length front ≤ 12 → Lengths left fresh front h
right_lengths left fresh front h l f le =
    let c = length_spelt 2 h in
    let k = length_fields left l in
    let one : length (patched fresh 0 front) ≡ 4096 = length_patched fresh front 0 (omega arith) ∙ f in
    let two : length (patched (patched fresh 0 front) 26 (spelt 2 h)) ≡ 4096 = length_patched (patched fresh 0 front) (spelt 2 h) 26 (omega (arith, c, one)) ∙ one in
    let three : length (patched (patched (patched fresh 0 front) 26 (spelt 2 h)) 32 (fields_bytes left)) ≡ 4096 = length_patched (patched (patched fresh 0 front) 26 (spelt 2 h)) (fields_bytes left) 32 (omega (arith, k, two)) ∙ two in
    record { one = one; two = two; three = three }

pub right_entries : (left fresh front : List ℕ) (h : ℕ) → h ≡ 126 → length left ≡ 4096 → length fresh ≡ 4096 → length front ≤ 12 → count_of left ≡ h + h → entries_of (right_after left fresh front h) ≡ drop h (entries_of left)
right_entries left fresh front h is l f le full =
    let ls = right_lengths left fresh front h l f le in
    let one = patched fresh 0 front in
    let two = patched one 26 (spelt 2 h) in
    let three = patched two 32 (fields_bytes left) in
    let new = right_after left fresh front h in
    let l1 : length one ≡ 4096 = ls.one in
    let l2 : length two ≡ 4096 = ls.two in
    let l3 : length three ≡ 4096 = ls.three in
    let k = length_half left l in
    let count : count_of new ≡ h =
    count_kept three (half_bytes left) 64 (omega arith) (omega arith)
    ∙ count_kept two (fields_bytes left) 32 (omega arith) (omega arith)
    ∙ count_read one h (omega arith) (omega arith) in
    ap (entries_from new 64) count
    ∙ same_entries h new left 64 (64 + 16 * h) (λ i lt.
    let there : 2080 + i ≡ 64 + 16 * h + i = omega arith in
    byte_inside three (half_bytes left) 64 i (omega arith) (omega (arith, k))
    ∙ half_byte left i (omega arith)
    ∙ ap (λ (o : ℕ). get_or left o 0) there)
    ∙ sym (ap (λ (n : ℕ). drop h (entries_from left 64 n)) full ∙ drop_entries left 64 h h)

pub right_low : (left fresh front : List ℕ) (h : ℕ) → length left ≡ 4096 → length fresh ≡ 4096 → length front ≤ 12 → low_of_split left < 256 ^ 8 → low_of (right_after left fresh front h) ≡ low_of_split left
unfolding low_of
right_low left fresh front h l f le lt =
    let ls = right_lengths left fresh front h l f le in
    let two = patched (patched fresh 0 front) 26 (spelt 2 h) in
    let three = patched two 32 (fields_bytes left) in
    let l2 : length two ≡ 4096 = ls.two in
    let l3 : length three ≡ 4096 = ls.three in
    let k = length_fields left l in
    number_before three (half_bytes left) 64 32 8 (omega arith) (omega arith)
    ∙ number_inside two (fields_bytes left) 32 0 8 (omega arith) (omega (arith, k))
    ∙ fields_low left lt

right_byte : (left fresh front : List ℕ) (h k : ℕ) → length left ≡ 4096 → length fresh ≡ 4096 → length front ≤ 12 → k < 16 → get_or (right_after left fresh front h) (40 + k) 0 ≡ get_or left (40 + k) 0
right_byte left fresh front h k l f le lt =
    let ls = right_lengths left fresh front h l f le in
    let two = patched (patched fresh 0 front) 26 (spelt 2 h) in
    let three = patched two 32 (fields_bytes left) in
    let l2 : length two ≡ 4096 = ls.two in
    let l3 : length three ≡ 4096 = ls.three in
    let n = length_fields left l in
    let there : 40 + k ≡ 32 + (8 + k) = omega arith in
    byte_before three (half_bytes left) 64 (40 + k) (omega arith) (omega arith)
    ∙ ap (λ (o : ℕ). get_or three o 0) there
    ∙ byte_inside two (fields_bytes left) 32 (8 + k) (omega arith) (omega (arith, n))
    ∙ fields_byte left k lt

pub right_right : (left fresh front : List ℕ) (h : ℕ) → length left ≡ 4096 → length fresh ≡ 4096 → length front ≤ 12 → right_field (right_after left fresh front h) ≡ right_field left
unfolding right_field
right_right left fresh front h l f le =
    same_number (right_after left fresh front h) left 52 52 4 (λ k lt.
    let there : 52 + k ≡ 40 + (12 + k) = omega arith in
    ap (λ (o : ℕ). get_or (right_after left fresh front h) o 0) there ∙ right_byte left fresh front h (12 + k) l f le (omega arith) ∙ ap (λ (o : ℕ). get_or left o 0) (sym there))

right_high_field : (left fresh front : List ℕ) (h : ℕ) → length left ≡ 4096 → length fresh ≡ 4096 → length front ≤ 12 → high_field (right_after left fresh front h) ≡ high_field left
unfolding high_field
right_high_field left fresh front h l f le =
    same_number (right_after left fresh front h) left 40 40 8 (λ k lt. right_byte left fresh front h k l f le (omega arith))

pub right_high : (left fresh front : List ℕ) (h : ℕ) → length left ≡ 4096 → length fresh ≡ 4096 → length front ≤ 12 → high_of (right_after left fresh front h) ≡ high_of left
right_high left fresh front h l f le =
    ap (λ (b : ℕ). if b == 1 then Some (high_field (right_after left fresh front h)) else None) (right_byte left fresh front h 8 l f le (omega arith))
    ∙ ap (λ (n : ℕ). if slice_index left 48 == 1 then Some n else None) (right_high_field left fresh front h l f le)

pub length_front : (kind : ℕ) (id : PageId) → length (front_of kind id) ≡ 12
unfolding front_of
length_front kind id =
    let s = length_spelt 2 id.set in
    let n = length_spelt 4 id.number in
    simp length-append (omega (arith, s, n))

right_whole : (left fresh front : List ℕ) (h : ℕ) → length left ≡ 4096 → length fresh ≡ 4096 → length front ≤ 12 → length (right_after left fresh front h) ≡ 4096
right_whole left fresh front h l f le =
    let ls = right_lengths left fresh front h l f le in
    let three = patched (patched (patched fresh 0 front) 26 (spelt 2 h)) 32 (fields_bytes left) in
    let l3 : length three ≡ 4096 = ls.three in
    let k = length_half left l in
    length_patched three (half_bytes left) 64 (omega (arith, l3, k)) ∙ l3

right_kind : (left fresh front : List ℕ) (h : ℕ) → length left ≡ 4096 → length fresh ≡ 4096 → length front ≡ 12 → slice_index (right_after left fresh front h) 4 ≡ slice_index front 4
right_kind left fresh front h l f is =
    let ls = right_lengths left fresh front h l f (omega arith) in
    let one = patched fresh 0 front in
    let two = patched one 26 (spelt 2 h) in
    let three = patched two 32 (fields_bytes left) in
    let l1 : length one ≡ 4096 = ls.one in
    let l2 : length two ≡ 4096 = ls.two in
    let l3 : length three ≡ 4096 = ls.three in
    byte_before three (half_bytes left) 64 4 (omega arith) (omega arith)
    ∙ byte_before two (fields_bytes left) 32 4 (omega arith) (omega arith)
    ∙ byte_before one (spelt 2 h) 26 4 (omega arith) (omega arith)
    ∙ byte_inside fresh front 0 4 (omega arith) (omega arith)

pub front_kind : (kind : ℕ) (id : PageId) → slice_index (front_of kind id) 4 ≡ kind
unfolding front_of
front_kind kind id = refl

pub right_is : (left fresh front : List ℕ) → length left ≡ 4096 → length fresh ≡ 4096 → length front ≡ 12 → slice_index front 4 ≡ slice_index left 4 → count_of left ≡ 252 → low_of_split left < 256 ^ 8 → IsRightOf left (right_after left fresh front 126) (low_of_split left)
right_is left fresh front l f is kind full low =
    let le : length front ≤ 12 = omega arith in
    record {
      whole = right_whole left fresh front 126 l f le;
      kind = right_kind left fresh front 126 l f is ∙ kind;
      entries = right_entries left fresh front 126 refl l f le full;
      low_key = right_low left fresh front 126 l f le low;
      high_key = right_high left fresh front 126 l f le;
      right_page = right_right left fresh front 126 l f le;
    }

pub right_if : {E : Type 0} (left : List ℕ) (number : ℕ) (r : Result Split E) → length left ≡ 4096 → count_of left ≡ 252 → low_of_split left < 256 ^ 8
    → IfOk r (λ s. s.right ≡ right_patches left number) → IfOk r (λ s. s.low ≡ low_of_split left)
    → IfOk r (λ s. (fresh : List ℕ) → length fresh ≡ 4096 → IsRightOf left (all_patched fresh s.right) s.low)
right_if left number (Ok s) l full low patches is = λ fresh f.
    let front = length_front (slice_index left 4) (right_id left number) in
    subst (λ (ps : List Patch). IsRightOf left (all_patched fresh ps) s.low) (sym patches)
    (subst (λ (n : ℕ). IsRightOf left (all_patched fresh (right_patches left number)) n) (sym is) (right_is left fresh (front_of (slice_index left 4) (right_id left number)) l f front (front_kind (slice_index left 4) (right_id left number)) full low))
right_if left number (Err x) l full low patches is = tt
