-- What is read of a page after a patch: its bytes at its place, and elsewhere what stood there.
use Rattle.std.proofs.Common.{◌≡◌, ◌≤◌, ◌<◌, ◌^◌, ℕ, ◌+◌, ◌==◌, if◌then◌else◌, inl, inr, List, [], ◌∷◌, ◌++◌, get_or, length, take, drop, refl, sym, ap, ◌∙◌, arith, append_assoc}
use Rattle.std.proofs.lemmas.List.{append-nil, get_or-drop, get_or-take, drop-drop, drop-take, drop_at, length-take-le, length-append, length-drop}
use Rattle.std.proofs.lemmas.Slice.{take-put_mid_below, take-put_mid, drop-put_mid}
use borrow.Rule.Slice.PartMut.{put_mid}
use Rattle.byteorder.specs.Endian.{big_bytes, big_number}
use Rattle.byteorder.specs.Numbers.{big_from-take, big_number-reads_back, length-bytes_high_first}
use Rattle.page_format.specs.Fields.{patched, set_version, set_lrsn, number_in, width_in, lrsn_of}
use Rattle.page_format.specs.declared.patch.Patch.{Patch}
use Rattle.heap_space.specs.Written.{after_patch}
use Rattle.page_images.specs.Parts.{part, AreApart, IsOffStamp, Lies}

as_put : (page : List ℕ) (off : ℕ) (bytes : List ℕ) → patched page off bytes ≡ put_mid off (length bytes) page bytes
unfolding patched
as_put page off bytes =
    append_assoc (take off page) bytes (drop (off + length bytes) page)
    ∙ ap (λ (rest : List ℕ). take off page ++ (bytes ++ rest)) (sym (drop-drop (length bytes) off page))

behind : (page : List ℕ) (off : ℕ) (bytes : List ℕ) (at : ℕ) → off ≤ length page → off + length bytes ≤ at → drop at (patched page off bytes) ≡ drop at page
behind page off bytes at le past =
    ap (λ (l : List ℕ). drop at l) (as_put page off bytes) ∙ drop-put_mid off (length bytes) page bytes at past le refl

before : (page : List ℕ) (off : ℕ) (bytes : List ℕ) (n : ℕ) → off ≤ length page → n ≤ off → take n (patched page off bytes) ≡ take n page
before page off bytes n le short =
    ap (λ (l : List ℕ). take n l) (as_put page off bytes) ∙ take-put_mid_below off (length bytes) page bytes n short le

-- what lies apart from the patch
kept : (page : List ℕ) (off : ℕ) (bytes : List ℕ) (at width : ℕ) → off ≤ length page → AreApart at width off (length bytes) → part at width (patched page off bytes) ≡ part at width page
kept page off bytes at width le (inl short) =
    sym (drop-take at width (patched page off bytes))
    ∙ ap (λ (l : List ℕ). drop at l) (before page off bytes (at + width) le short)
    ∙ drop-take at width page
kept page off bytes at width le (inr past) = ap (λ (l : List ℕ). take width l) (behind page off bytes at le past)

-- what the patch wrote
put : (page : List ℕ) (off : ℕ) (bytes : List ℕ) → off ≤ length page → part off (length bytes) (patched page off bytes) ≡ bytes
put page off bytes le =
    sym (drop-take off (length bytes) (patched page off bytes))
    ∙ ap (λ (l : List ℕ). drop off l) (ap (λ (l : List ℕ). take (off + length bytes) l) (as_put page off bytes) ∙ take-put_mid off (length bytes) page bytes (off + length bytes) refl le)
    ∙ drop_at (take off page) bytes off (length-take-le off page le)

-- the front of a page after a patch of it, and after one behind it
pub front_put : (page bytes : List ℕ) → take (length bytes) (patched page 0 bytes) ≡ bytes
front_put page bytes = put page 0 bytes (omega arith)

pub front_left : (page : List ℕ) (off : ℕ) (bytes : List ℕ) → off ≤ length page → 12 ≤ off → take 12 (patched page off bytes) ≡ take 12 page
front_left page off bytes le past = before page off bytes 12 le past

-- a number is that of its bytes
pub number_of_part : (page : List ℕ) (at width : ℕ) → number_in page at width ≡ big_number width (part at width page)
number_of_part page at width = sym (big_from-take 0 width width (drop at page) (omega arith))

-- ---- a change of a whole page: the patch, and then the LRSN

length_kept : (page : List ℕ) (off : ℕ) (bytes : List ℕ) → off + length bytes ≤ length page → length (patched page off bytes) ≡ length page
unfolding patched
length_kept page off bytes fits =
    omega (arith, length-append (take off page ++ bytes) (drop (off + length bytes) page), length-append (take off page) bytes, length-take-le off page (omega arith), length-drop (off + length bytes) page)

pub patched_whole : (page : List ℕ) (patch : Patch) → Lies page patch → length (patched page patch.offset patch.bytes) ≡ 4096
patched_whole page patch h =
    let w = h.whole in
    length_kept page patch.offset patch.bytes (omega (arith, w, h.within)) ∙ w

version_whole : (page : List ℕ) → length page ≡ 4096 → length (set_version page) ≡ 4096
unfolding set_version
version_whole page h = length_kept page 5 (2 ∷ []) (omega (arith, h)) ∙ h

pub stamp_whole : (lrsn : ℕ) (page : List ℕ) → length page ≡ 4096 → length (set_lrsn page lrsn) ≡ 4096
unfolding set_lrsn
stamp_whole lrsn page h =
    let w = length-bytes_high_first 10 lrsn in
    let v = version_whole page h in
    length_kept (set_version page) 16 (big_bytes 10 lrsn) (omega (arith, v, w)) ∙ v

pub step_whole : (lrsn : ℕ) (page : List ℕ) (patch : Patch) → Lies page patch → length (after_patch lrsn page patch) ≡ 4096
step_whole lrsn page patch h = stamp_whole lrsn (patched page patch.offset patch.bytes) (patched_whole page patch h)

version_kept : (page : List ℕ) (at width : ℕ) → length page ≡ 4096 → AreApart at width 5 1 → part at width (set_version page) ≡ part at width page
unfolding set_version
version_kept page at width whole apart = kept page 5 (2 ∷ []) at width (omega (arith, whole)) apart

number_kept : (lrsn : ℕ) (page : List ℕ) (at width : ℕ) → length page ≡ 4096 → AreApart at width 16 10 → part at width (set_lrsn page lrsn) ≡ part at width (set_version page)
unfolding set_lrsn
number_kept lrsn page at width whole apart = let v = version_whole page whole in kept (set_version page) 16 (big_bytes 10 lrsn) at width (omega (arith, v)) apart

pub stamp_kept : (lrsn : ℕ) (page : List ℕ) (at width : ℕ) → length page ≡ 4096 → IsOffStamp at width → part at width (set_lrsn page lrsn) ≡ part at width page
stamp_kept lrsn page at width whole apart = number_kept lrsn page at width whole apart.1 ∙ version_kept page at width whole apart.0

-- the front of a stamped page is that of the page with its version
pub stamp_front : (lrsn : ℕ) (page : List ℕ) → length page ≡ 4096 → take 12 (set_lrsn page lrsn) ≡ take 12 (set_version page)
stamp_front lrsn page whole = number_kept lrsn page 0 12 whole (inl (omega arith))

pub step_kept : (lrsn : ℕ) (page : List ℕ) (patch : Patch) (at width : ℕ) → Lies page patch → IsOffStamp at width → AreApart at width patch.offset (length patch.bytes) → part at width (after_patch lrsn page patch) ≡ part at width page
step_kept lrsn page patch at width h free apart =
    stamp_kept lrsn (patched page patch.offset patch.bytes) at width (patched_whole page patch h) free
    ∙ kept page patch.offset patch.bytes at width (omega (arith, h.whole, h.within)) apart

pub step_put : (lrsn : ℕ) (page : List ℕ) (patch : Patch) → Lies page patch → IsOffStamp patch.offset (length patch.bytes) → part patch.offset (length patch.bytes) (after_patch lrsn page patch) ≡ patch.bytes
step_put lrsn page patch h free =
    stamp_kept lrsn (patched page patch.offset patch.bytes) patch.offset (length patch.bytes) (patched_whole page patch h) free
    ∙ put page patch.offset patch.bytes (omega (arith, h.whole, h.within))

-- ---- the stamp itself

-- the byte of the version
version_there : (page : List ℕ) → length page ≡ 4096 → part 5 1 (set_version page) ≡ 2 ∷ []
unfolding set_version
version_there page whole = put page 5 (2 ∷ []) (omega (arith, whole))

pub byte_of_part : (page : List ℕ) (at : ℕ) → get_or page at 0 ≡ get_or (part at 1 page) 0 0
byte_of_part page at =
    let here : at ≡ at + 0 = omega arith in
    ap (λ (k : ℕ). get_or page k 0) here ∙ sym (get_or-drop at page 0 0) ∙ sym (get_or-take 1 (drop at page) 0 0 (omega arith))

pub stamp_version : (lrsn : ℕ) (page : List ℕ) → length page ≡ 4096 → get_or (set_lrsn page lrsn) 5 0 ≡ 2
stamp_version lrsn page whole =
    let there : part 5 1 (set_lrsn page lrsn) ≡ 2 ∷ [] = number_kept lrsn page 5 1 whole (inl (omega arith)) ∙ version_there page whole in
    byte_of_part (set_lrsn page lrsn) 5 ∙ ap (λ (l : List ℕ). get_or l 0 0) there

width_is : (lrsn : ℕ) (page : List ℕ) → length page ≡ 4096 → width_in (set_lrsn page lrsn) ≡ 10
width_is lrsn page whole = ap (λ (n : ℕ). if n == 2 then 10 else 6) (stamp_version lrsn page whole)

number_there : (lrsn : ℕ) (page : List ℕ) → length page ≡ 4096 → lrsn < 2 ^ 80 → number_in (set_lrsn page lrsn) 16 10 ≡ lrsn
unfolding set_lrsn
number_there lrsn page whole lt =
    let v = version_whole page whole in
    number_of_part (patched (set_version page) 16 (big_bytes 10 lrsn)) 16 10
    ∙ ap (big_number 10) (put (set_version page) 16 (big_bytes 10 lrsn) (omega (arith, v)) ∙ sym (append-nil (big_bytes 10 lrsn)))
    ∙ big_number-reads_back 10 lrsn [] lt

pub stamp_read : (lrsn : ℕ) (page : List ℕ) → length page ≡ 4096 → lrsn < 2 ^ 80 → lrsn_of (set_lrsn page lrsn) ≡ lrsn
stamp_read lrsn page whole lt =
    ap (λ (w : ℕ). number_in (set_lrsn page lrsn) 16 w) (width_is lrsn page whole) ∙ number_there lrsn page whole lt
