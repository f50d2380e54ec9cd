-- What is read back of a page that was stamped.
use Rattle.std.proofs.Common.{◌≡◌, ℕ, ◌+◌, ◌-◌, ◌==◌, ◌<◌, ◌≤◌, List, [], ◌∷◌, ◌++◌, length, get_or, take, drop, sym, ap, ◌∙◌, append_assoc, arith, if◌then◌else◌}
use Rattle.std.proofs.Math.Seq.{drop-append_seam}
use Rattle.std.proofs.lemmas.List.{length-take-le, length-append, length-drop, get_or_append_left, get_or-append_right, get_or-take}
use Rattle.ds_base.specs.Ids.{IsLrsn, lrsn_width, old_lrsn_width}
use Rattle.byteorder.specs.Endian.{big_bytes, big_number}
use Rattle.byteorder.specs.Numbers.{big_number-reads_back}
use Rattle.page_format.specs.Fields.{page_size, version, version_at, lrsn_at, number_in, width_in, lrsn_of, patched, set_version, set_lrsn}

-- what lies behind the first n
behind : (n : ℕ) (page rest : List ℕ) → n ≤ length page → drop n (take n page ++ rest) ≡ rest
behind n page rest le =
    ap (λ (k : ℕ). drop k (take n page ++ rest)) (sym (length-take-le n page le)) ∙ drop-append_seam (take n page) rest

pub length_patched : (page bytes : List ℕ) (at : ℕ) → at + length bytes ≤ length page → length (patched page at bytes) ≡ length page
unfolding patched
length_patched page bytes at h =
    omega (arith, length-append (take at page ++ bytes) (drop (at + length bytes) page), length-append (take at page) bytes, length-take-le at page (omega arith), length-drop (at + length bytes) page)

byte_before : (page bytes : List ℕ) (at k : ℕ) → at ≤ length page → k < at → get_or (patched page at bytes) k 0 ≡ get_or page k 0
unfolding patched
byte_before page bytes at k h lt =
    let t = length-take-le at page h in
    let b = length-append (take at page) bytes in
    get_or_append_left (take at page ++ bytes) (drop (at + length bytes) page) 0 k (omega (arith, t, b))
    ∙ get_or_append_left (take at page) bytes 0 k (omega (arith, t))
    ∙ get_or-take at page k 0 lt

-- the byte of the version, once it was written
version_there : (page : List ℕ) → page_size ≤ length page → get_or (set_version page) version_at 0 ≡ version
unfolding set_version patched
version_there page le =
    let t = length-take-le version_at page (omega (arith, le)) in
    let b = length-append (take version_at page) (version ∷ []) in
    get_or_append_left (take version_at page ++ (version ∷ [])) (drop (version_at + 1) page) 0 version_at (omega (arith, t, b))
    ∙ get_or-append_right (take version_at page) (version ∷ []) version_at version_at 0 t (omega arith)

whole : (page : List ℕ) → page_size ≤ length page → length (set_version page) ≡ length page
unfolding set_version
whole page le = length_patched page (version ∷ []) version_at (omega (arith, le))

width_is : (page : List ℕ) (lrsn : ℕ) → page_size ≤ length page → width_in (set_lrsn page lrsn) ≡ lrsn_width
unfolding set_lrsn
width_is page lrsn le =
    ap (λ (n : ℕ). if n == version then lrsn_width else old_lrsn_width)
    (byte_before (set_version page) (big_bytes lrsn_width lrsn) lrsn_at version_at (omega (arith, whole page le, le)) (omega arith) ∙ version_there page le)

number_is : (page : List ℕ) (lrsn : ℕ) → lrsn_at ≤ length page → IsLrsn lrsn → number_in (patched page lrsn_at (big_bytes lrsn_width lrsn)) lrsn_at lrsn_width ≡ lrsn
unfolding patched
number_is page lrsn le h =
    let rest = drop (lrsn_at + length (big_bytes lrsn_width lrsn)) page in
    ap (λ (bytes : List ℕ). big_number lrsn_width (drop lrsn_at bytes)) (append_assoc (take lrsn_at page) (big_bytes lrsn_width lrsn) rest)
    ∙ ap (big_number lrsn_width) (behind lrsn_at page (big_bytes lrsn_width lrsn ++ rest) le)
    ∙ big_number-reads_back lrsn_width lrsn rest h

-- the number that was set is the number that is read
pub stamped : (page : List ℕ) (lrsn : ℕ) → page_size ≤ length page → IsLrsn lrsn → lrsn_of (set_lrsn page lrsn) ≡ lrsn
unfolding set_lrsn
stamped page lrsn le h =
    ap (λ (w : ℕ). number_in (set_lrsn page lrsn) lrsn_at w) (width_is page lrsn le)
    ∙ number_is (set_version page) lrsn (omega (arith, whole page le, le)) h
