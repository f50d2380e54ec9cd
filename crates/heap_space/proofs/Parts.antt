-- What is read of a page after a patch: its bytes at its place, and elsewhere what stood there.
use Rattle.std.proofs.Common.{◌≡◌, ◌≤◌, ℕ, ◌+◌, ◌⊎◌, inl, inr, List, [], ◌∷◌, ◌++◌, length, take, drop, refl, sym, ap, ◌∙◌, arith, append_assoc}
use Rattle.std.proofs.lemmas.List.{drop-drop, drop-take, drop_at, length-take-le, length-append, length-drop}
use Rattle.std.proofs.lemmas.Slice.{take-put_mid_below, take-put_mid, drop-put_mid}
use borrow.Rule.Slice.PartMut.{put_mid}
use Rattle.byteorder.specs.Endian.{big_bytes, big_number}
use Rattle.byteorder.specs.Numbers.{big_from-take}
use Rattle.page_format.specs.Fields.{version, version_at, patched, set_version, set_lrsn, number_in}
use Rattle.page_format.specs.declared.patch.Patch.{Patch}
use Rattle.heap_space.specs.Written.{after_patch}

-- so many bytes from an offset on
abbrev pub part : ℕ → ℕ → List ℕ → List ℕ
part at width page = take width (drop at page)

as_put : (page : List ℕ) (off : ℕ) (bytes : List ℕ) → patched page off bytes ≡ put_mid off (length bytes) page bytes
unfolding patched
as_put page off bytes =
    append_assoc (take off page) bytes (drop (off + length bytes) page)
    ∙ ap (λ (rest : List ℕ). take off page ++ (bytes ++ rest)) (sym (drop-drop (length bytes) off page))

behind : (page : List ℕ) (off : ℕ) (bytes : List ℕ) (at : ℕ) → off ≤ length page → off + length bytes ≤ at → drop at (patched page off bytes) ≡ drop at page
behind page off bytes at le past =
    ap (λ (l : List ℕ). drop at l) (as_put page off bytes) ∙ drop-put_mid off (length bytes) page bytes at past le refl

before : (page : List ℕ) (off : ℕ) (bytes : List ℕ) (n : ℕ) → off ≤ length page → n ≤ off → take n (patched page off bytes) ≡ take n page
before page off bytes n le short =
    ap (λ (l : List ℕ). take n l) (as_put page off bytes) ∙ take-put_mid_below off (length bytes) page bytes n short le

-- what lies apart from the patch
pub kept : (page : List ℕ) (off : ℕ) (bytes : List ℕ) (at width : ℕ) → off ≤ length page → (at + width ≤ off) ⊎ (off + length bytes ≤ at) → part at width (patched page off bytes) ≡ part at width page
kept page off bytes at width le (inl short) =
    sym (drop-take at width (patched page off bytes))
    ∙ ap (λ (l : List ℕ). drop at l) (before page off bytes (at + width) le short)
    ∙ drop-take at width page
kept page off bytes at width le (inr past) = ap (λ (l : List ℕ). take width l) (behind page off bytes at le past)

-- what the patch wrote
pub put : (page : List ℕ) (off : ℕ) (bytes : List ℕ) → off ≤ length page → part off (length bytes) (patched page off bytes) ≡ bytes
put page off bytes le =
    sym (drop-take off (length bytes) (patched page off bytes))
    ∙ ap (λ (l : List ℕ). drop off l) (ap (λ (l : List ℕ). take (off + length bytes) l) (as_put page off bytes) ∙ take-put_mid off (length bytes) page bytes (off + length bytes) refl le)
    ∙ drop_at (take off page) bytes off (length-take-le off page le)

-- a number is that of its bytes
pub number_of_part : (page : List ℕ) (at width : ℕ) → number_in page at width ≡ big_number width (part at width page)
number_of_part page at width = sym (big_from-take 0 width width (drop at page) (omega arith))

-- ---- a change of 4,096 bytes: the patch, and then the LRSN

pub record Lies (page : List ℕ) (patch : Patch) : Type 0 where
  pub whole : length page ≡ 4096
  pub within : patch.offset + length patch.bytes ≤ 4096

length_kept : (page : List ℕ) (off : ℕ) (bytes : List ℕ) → off + length bytes ≤ length page → length (patched page off bytes) ≡ length page
unfolding patched
length_kept page off bytes fits =
    omega (arith, length-append (take off page ++ bytes) (drop (off + length bytes) page), length-append (take off page) bytes, length-take-le off page (omega arith), length-drop (off + length bytes) page)

version_length : (page : List ℕ) → length page ≡ 4096 → length (set_version page) ≡ 4096
unfolding set_version
version_length page whole = length_kept page version_at (version ∷ []) (omega (arith, whole)) ∙ whole

stamp_length : (lrsn : ℕ) (page : List ℕ) → length page ≡ 4096 → length (set_lrsn page lrsn) ≡ 4096
unfolding set_lrsn
stamp_length lrsn page whole =
    let first = version_length page whole in
    length_kept (set_version page) 16 (big_bytes 10 lrsn) (omega (arith, first)) ∙ first

pub step_length : (lrsn : ℕ) (page : List ℕ) (patch : Patch) → Lies page patch → length (after_patch lrsn page patch) ≡ 4096
step_length lrsn page patch h =
    let first = length_kept page patch.offset patch.bytes (omega (arith, h.whole, h.within)) in
    stamp_length lrsn (patched page patch.offset patch.bytes) (omega (arith, first, h.whole))

version_kept : (page : List ℕ) (at width : ℕ) → length page ≡ 4096 → 6 ≤ at → part at width (set_version page) ≡ part at width page
unfolding set_version
version_kept page at width whole behind = kept page version_at (version ∷ []) at width (omega (arith, whole)) (inr behind)

-- what lies behind the number
stamp_kept : (lrsn : ℕ) (page : List ℕ) (at width : ℕ) → length page ≡ 4096 → 26 ≤ at → part at width (set_lrsn page lrsn) ≡ part at width page
unfolding set_lrsn
stamp_kept lrsn page at width whole behind =
    let first = version_length page whole in
    kept (set_version page) 16 (big_bytes 10 lrsn) at width (omega (arith, first)) (inr behind) ∙ version_kept page at width whole (omega arith)

pub step_kept : (lrsn : ℕ) (page : List ℕ) (patch : Patch) (at width : ℕ) → Lies page patch → 26 ≤ at → (at + width ≤ patch.offset) ⊎ (patch.offset + length patch.bytes ≤ at) → part at width (after_patch lrsn page patch) ≡ part at width page
step_kept lrsn page patch at width h behind apart =
    let first = length_kept page patch.offset patch.bytes (omega (arith, h.whole, h.within)) in
    stamp_kept lrsn (patched page patch.offset patch.bytes) at width (omega (arith, first, h.whole)) behind
    ∙ kept page patch.offset patch.bytes at width (omega (arith, h.whole, h.within)) apart

pub step_put : (lrsn : ℕ) (page : List ℕ) (patch : Patch) → Lies page patch → 26 ≤ patch.offset → part patch.offset (length patch.bytes) (after_patch lrsn page patch) ≡ patch.bytes
step_put lrsn page patch h behind =
    let first = length_kept page patch.offset patch.bytes (omega (arith, h.whole, h.within)) in
    stamp_kept lrsn (patched page patch.offset patch.bytes) patch.offset (length patch.bytes) (omega (arith, first, h.whole)) behind
    ∙ put page patch.offset patch.bytes (omega (arith, h.whole, h.within))
