-- Of two pages that differ in their stamps alone a change makes the same page.
use Rattle.std.proofs.Common.{◌≡◌, ℕ, ◌+◌, ◌-◌, ◌<◌, ◌≤◌, List, [], ◌∷◌, length, get_or, inl, inr, sym, ap, ◌∙◌, arith}
use Rattle.std.specs.Prelude.{◌⊎◌}
use Rattle.std.proofs.lemmas.Bool.{cases_lt}
use Rattle.std.proofs.lemmas.List.{ext_get_or}
use Rattle.byteorder.specs.Endian.{big_bytes}
use Rattle.byteorder.specs.Numbers.{length-bytes_high_first}
use Rattle.page_format.specs.Fields.{patched, set_version, set_lrsn, lrsn_of, renewed}
use Rattle.page_format.specs.declared.patch.Patch.{Patch}
use Rattle.heap_space.specs.Written.{after_patch}
use Rattle.index_leaf.proofs.Stamps.{length_stamp, stamp_byte}
use Rattle.index_leaf.proofs.Writes.{length_patched, byte_before, byte_inside, byte_behind}

-- whole pages with the same bytes but those of the version and the number
pub record Agree (a b : List ℕ) : Type 0 where
  pub one : length a ≡ 4096
  pub two : length b ≡ 4096
  pub same : (k : ℕ) → (k < 5) ⊎ (6 ≤ k) → (k < 16) ⊎ (26 ≤ k) → get_or a k 0 ≡ get_or b k 0

-- ---- stamps

version_length : (page : List ℕ) → length page ≡ 4096 → length (set_version page) ≡ 4096
unfolding set_version
version_length page l = length_patched page (2 ∷ []) 5 (omega (arith, l)) ∙ l

version_there : (page : List ℕ) → length page ≡ 4096 → get_or (set_version page) 5 0 ≡ 2
unfolding set_version
version_there page l = byte_inside page (2 ∷ []) 5 0 (omega arith) (omega arith)

version_stamped : (page : List ℕ) (lrsn : ℕ) → length page ≡ 4096 → get_or (set_lrsn page lrsn) 5 0 ≡ 2
unfolding set_lrsn
version_stamped page lrsn l =
    let v = version_length page l in
    byte_before (set_version page) (big_bytes 10 lrsn) 16 5 (omega arith) (omega arith) ∙ version_there page l

number_inside : (page : List ℕ) (lrsn k : ℕ) → length page ≡ 4096 → k < 10 → get_or (set_lrsn page lrsn) (16 + k) 0 ≡ get_or (big_bytes 10 lrsn) k 0
unfolding set_lrsn
number_inside page lrsn k l lt =
    let w = length-bytes_high_first 10 lrsn in
    let v = version_length page l in
    byte_inside (set_version page) (big_bytes 10 lrsn) 16 k (omega arith) (omega (arith, w))

number_byte : (a b : List ℕ) (lrsn k : ℕ) → Agree a b → 16 ≤ k → k < 26 → get_or (set_lrsn a lrsn) k 0 ≡ get_or (set_lrsn b lrsn) k 0
number_byte a b lrsn k h le lt =
    let there : k ≡ 16 + (k - 16) = omega arith in
    ap (λ (i : ℕ). get_or (set_lrsn a lrsn) i 0) there
    ∙ number_inside a lrsn (k - 16) h.one (omega arith)
    ∙ sym (number_inside b lrsn (k - 16) h.two (omega arith))
    ∙ ap (λ (i : ℕ). get_or (set_lrsn b lrsn) i 0) (sym there)

other_byte : (a b : List ℕ) (lrsn k : ℕ) → Agree a b → (k < 5) ⊎ (6 ≤ k) → (k < 16) ⊎ (26 ≤ k) → get_or (set_lrsn a lrsn) k 0 ≡ get_or (set_lrsn b lrsn) k 0
other_byte a b lrsn k h version number =
    stamp_byte a lrsn k h.one version number ∙ h.same k version number ∙ sym (stamp_byte b lrsn k h.two version number)

front_byte : (a b : List ℕ) (lrsn k : ℕ) → Agree a b → k < 16 → get_or (set_lrsn a lrsn) k 0 ≡ get_or (set_lrsn b lrsn) k 0
front_byte a b lrsn k h lt =
    elim (cases_lt k 5) as (λ _. get_or (set_lrsn a lrsn) k 0 ≡ get_or (set_lrsn b lrsn) k 0) [
      | inl low ↦ other_byte a b lrsn k h (inl low) (inl lt)
      | inr le ↦ elim (cases_lt k 6) as (λ _. get_or (set_lrsn a lrsn) k 0 ≡ get_or (set_lrsn b lrsn) k 0) [
        | inl few ↦
            let five : k ≡ 5 = omega arith in
            ap (λ (i : ℕ). get_or (set_lrsn a lrsn) i 0) five ∙ version_stamped a lrsn h.one ∙ sym (version_stamped b lrsn h.two) ∙ ap (λ (i : ℕ). get_or (set_lrsn b lrsn) i 0) (sym five)
        | inr past ↦ other_byte a b lrsn k h (inr past) (inl lt)
      ]
    ]

each_byte : (a b : List ℕ) (lrsn k : ℕ) → Agree a b → get_or (set_lrsn a lrsn) k 0 ≡ get_or (set_lrsn b lrsn) k 0
each_byte a b lrsn k h =
    elim (cases_lt k 16) as (λ _. get_or (set_lrsn a lrsn) k 0 ≡ get_or (set_lrsn b lrsn) k 0) [
      | inl lt ↦ front_byte a b lrsn k h lt
      | inr le ↦ elim (cases_lt k 26) as (λ _. get_or (set_lrsn a lrsn) k 0 ≡ get_or (set_lrsn b lrsn) k 0) [
        | inl lt ↦ number_byte a b lrsn k h le lt
        | inr past ↦ other_byte a b lrsn k h (inr (omega arith)) (inr past)
      ]
    ]

stamped_same : (a b : List ℕ) (lrsn : ℕ) → Agree a b → set_lrsn a lrsn ≡ set_lrsn b lrsn
stamped_same a b lrsn h =
    let one = length_stamp a lrsn h.one in
    let two = length_stamp b lrsn h.two in
    ext_get_or 0 (set_lrsn a lrsn) (set_lrsn b lrsn) (omega (arith, one, two)) (λ k _. each_byte a b lrsn k h)

-- ---- patches

-- the bytes of a patch are the same in both, and elsewhere they agree
patch_byte : (a b bytes : List ℕ) (at k : ℕ) → length a ≡ 4096 → length b ≡ 4096 → at + length bytes ≤ 4096 → get_or a k 0 ≡ get_or b k 0 → get_or (patched a at bytes) k 0 ≡ get_or (patched b at bytes) k 0
patch_byte a b bytes at k l m within same =
    elim (cases_lt k at) as (λ _. get_or (patched a at bytes) k 0 ≡ get_or (patched b at bytes) k 0) [
      | inl lt ↦ byte_before a bytes at k (omega arith) lt ∙ same ∙ sym (byte_before b bytes at k (omega arith) lt)
      | inr le ↦ elim (cases_lt k (at + length bytes)) as (λ _. get_or (patched a at bytes) k 0 ≡ get_or (patched b at bytes) k 0) [
        | inl lt ↦
            let there : k ≡ at + (k - at) = omega arith in
            ap (λ (i : ℕ). get_or (patched a at bytes) i 0) there
            ∙ byte_inside a bytes at (k - at) (omega arith) (omega arith)
            ∙ sym (byte_inside b bytes at (k - at) (omega arith) (omega arith))
            ∙ ap (λ (i : ℕ). get_or (patched b at bytes) i 0) (sym there)
        | inr past ↦ byte_behind a bytes at k (omega arith) past ∙ same ∙ sym (byte_behind b bytes at k (omega arith) past)
      ]
    ]

patch_agrees : (a b : List ℕ) (p : Patch) → Agree a b → p.offset + length p.bytes ≤ 4096 → Agree (patched a p.offset p.bytes) (patched b p.offset p.bytes)
patch_agrees a b p h within = record {
  one = let l = h.one in length_patched a p.bytes p.offset (omega (arith, within, l)) ∙ l;
  two = let l = h.two in length_patched b p.bytes p.offset (omega (arith, within, l)) ∙ l;
  same = λ k version number. patch_byte a b p.bytes p.offset k h.one h.two within (h.same k version number);
}

pub same_patched : (lrsn : ℕ) (a b : List ℕ) (p : Patch) → Agree a b → p.offset + length p.bytes ≤ 4096 → after_patch lrsn a p ≡ after_patch lrsn b p
same_patched lrsn a b p h within = stamped_same (patched a p.offset p.bytes) (patched b p.offset p.bytes) lrsn (patch_agrees a b p h within)

-- ---- the page in the version that is written

pub renewed_agrees : (page : List ℕ) → length page ≡ 4096 → Agree (renewed page) page
unfolding renewed
renewed_agrees page l = record {
  one = length_stamp page (lrsn_of page) l;
  two = l;
  same = λ k version number. stamp_byte page (lrsn_of page) k l version number;
}

pub version_renewed : (page : List ℕ) → length page ≡ 4096 → get_or (renewed page) 5 0 ≡ 2
unfolding renewed
version_renewed page l = version_stamped page (lrsn_of page) l
