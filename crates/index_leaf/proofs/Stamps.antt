-- What the stamp of a change leaves as it was.
use Rattle.std.proofs.Common.{◌≡◌, ℕ, ◌+◌, ◌-◌, ◌<◌, ◌≤◌, ◌⊎◌, refl, sym, ap, ◌∙◌, inl, inr, arith, List, [], ◌∷◌, length, get_or, Some, None, if◌then◌else◌}
use Rattle.std.specs.Prelude.{◌==◌, slice_index}
use Rattle.std.proofs.lemmas.List.{ext_get_or}
use Rattle.std.proofs.lemmas.Bool.{cases_lt}
use Rattle.byteorder.specs.Endian.{big_bytes}
use Rattle.byteorder.specs.Numbers.{length-bytes_high_first}
use Rattle.page_format.specs.Fields.{patched, set_version, set_lrsn}
use Rattle.index_leaf.specs.Entries.{count_of, low_of, high_of, high_field, right_field, entries_from}
use Rattle.page_format.specs.declared.patch.Patch.{Patch}
use Rattle.index_leaf.specs.Changes.{all_patched}
use Rattle.index_leaf.specs.Nodes.{ReadsAs, LiesInPage, AllLieInPage, all_stamped}
use Rattle.index_leaf.proofs.Writes.{length_patched, byte_before, byte_inside, byte_behind, same_number, same_entries}

-- ---- fields by their bytes

pub low_same : (page new : List ℕ) → ((k : ℕ) → 28 ≤ k → k < 64 → get_or new k 0 ≡ get_or page k 0) → low_of new ≡ low_of page
unfolding low_of
low_same page new h = same_number new page 32 32 8 (λ k lt. h (32 + k) (omega arith) (omega arith))

pub right_same : (page new : List ℕ) → ((k : ℕ) → 28 ≤ k → k < 64 → get_or new k 0 ≡ get_or page k 0) → right_field new ≡ right_field page
unfolding right_field
right_same page new h = same_number new page 52 52 4 (λ k lt. h (52 + k) (omega arith) (omega arith))

high_field_same : (page new : List ℕ) → ((k : ℕ) → 28 ≤ k → k < 64 → get_or new k 0 ≡ get_or page k 0) → high_field new ≡ high_field page
unfolding high_field
high_field_same page new h = same_number new page 40 40 8 (λ k lt. h (40 + k) (omega arith) (omega arith))

pub high_same : (page new : List ℕ) → ((k : ℕ) → 28 ≤ k → k < 64 → get_or new k 0 ≡ get_or page k 0) → high_of new ≡ high_of page
high_same page new h =
    ap (λ (b : ℕ). if b == 1 then Some (high_field new) else None) (h 48 (omega arith) (omega arith))
    ∙ ap (λ (n : ℕ). if slice_index page 48 == 1 then Some n else None) (high_field_same page new h)

pub count_same : (page new : List ℕ) → ((k : ℕ) → 26 ≤ k → get_or new k 0 ≡ get_or page k 0) → count_of new ≡ count_of page
unfolding count_of
count_same page new h = same_number new page 26 26 2 (λ k lt. h (26 + k) (omega arith))

pub reads_same : (page new : List ℕ) → slice_index new 4 ≡ slice_index page 4 → ((k : ℕ) → 26 ≤ k → get_or new k 0 ≡ get_or page k 0) → ReadsAs page new
reads_same page new kind h = record {
  kind = kind;
  entries = ap (entries_from new 64) (count_same page new h) ∙ same_entries (count_of page) new page 64 64 (λ k lt. h (64 + k) (omega arith));
  low_key = low_same page new (λ k le lt. h k (omega arith));
  high_key = high_same page new (λ k le lt. h k (omega arith));
  right_page = right_same page new (λ k le lt. h k (omega arith));
}

-- ---- the stamp

version_length : (page : List ℕ) → length page ≡ 4096 → length (set_version page) ≡ 4096
unfolding set_version
version_length page l = length_patched page (2 ∷ []) 5 (omega (arith, l)) ∙ l

pub length_stamp : (page : List ℕ) (lrsn : ℕ) → length page ≡ 4096 → length (set_lrsn page lrsn) ≡ 4096
unfolding set_lrsn
length_stamp page lrsn l =
    let w = length-bytes_high_first 10 lrsn in
    let v = version_length page l in
    length_patched (set_version page) (big_bytes 10 lrsn) 16 (omega (arith, v, w)) ∙ v

version_off : (page : List ℕ) (k : ℕ) → length page ≡ 4096 → (k < 5) ⊎ (6 ≤ k) → get_or (set_version page) k 0 ≡ get_or page k 0
unfolding set_version
version_off page k l (inl lt) = byte_before page (2 ∷ []) 5 k (omega arith) lt
version_off page k l (inr le) = byte_behind page (2 ∷ []) 5 k (omega arith) le

version_there : (page : List ℕ) → length page ≡ 4096 → get_or (set_version page) 5 0 ≡ 2
unfolding set_version
version_there page l = byte_inside page (2 ∷ []) 5 0 (omega arith) (omega arith)

-- a byte off the number
number_off : (page : List ℕ) (lrsn k : ℕ) → length page ≡ 4096 → (k < 16) ⊎ (26 ≤ k) → get_or (set_lrsn page lrsn) k 0 ≡ get_or (set_version page) k 0
unfolding set_lrsn
number_off page lrsn k l (inl lt) = let v = version_length page l in byte_before (set_version page) (big_bytes 10 lrsn) 16 k (omega arith) lt
number_off page lrsn k l (inr le) =
    let v = version_length page l in
    let w = length-bytes_high_first 10 lrsn in
    byte_behind (set_version page) (big_bytes 10 lrsn) 16 k (omega arith) (omega (arith, w))

pub stamp_byte : (page : List ℕ) (lrsn k : ℕ) → length page ≡ 4096 → (k < 5) ⊎ (6 ≤ k) → (k < 16) ⊎ (26 ≤ k) → get_or (set_lrsn page lrsn) k 0 ≡ get_or page k 0
stamp_byte page lrsn k l version number = number_off page lrsn k l number ∙ version_off page k l version

pub stamp_reads : (page : List ℕ) (lrsn : ℕ) → length page ≡ 4096 → ReadsAs page (set_lrsn page lrsn)
stamp_reads page lrsn l =
    reads_same page (set_lrsn page lrsn) (stamp_byte page lrsn 4 l (inl (omega arith)) (inl (omega arith))) (λ k le. stamp_byte page lrsn k l (inr (omega arith)) (inr (omega arith)))

-- ---- a stamp may come later

stamp_inside : (page : List ℕ) (lrsn k : ℕ) → length page ≡ 4096 → k < 10 → get_or (set_lrsn page lrsn) (16 + k) 0 ≡ get_or (big_bytes 10 lrsn) k 0
unfolding set_lrsn
stamp_inside page lrsn k l lt =
    let w = length-bytes_high_first 10 lrsn in
    let v = version_length page l in
    byte_inside (set_version page) (big_bytes 10 lrsn) 16 k (omega arith) (omega (arith, w))

-- a byte under the number, by any page
stamp_at : (page other : List ℕ) (lrsn k : ℕ) → length page ≡ 4096 → length other ≡ 4096 → 16 ≤ k → k < 26 → get_or (set_lrsn page lrsn) k 0 ≡ get_or (set_lrsn other lrsn) k 0
stamp_at page other lrsn k l m le lt =
    let there : k ≡ 16 + (k - 16) = omega arith in
    ap (λ (i : ℕ). get_or (set_lrsn page lrsn) i 0) there
    ∙ stamp_inside page lrsn (k - 16) l (omega arith)
    ∙ sym (stamp_inside other lrsn (k - 16) m (omega arith))
    ∙ ap (λ (i : ℕ). get_or (set_lrsn other lrsn) i 0) (sym there)

-- the byte of the version, by any page
version_at_five : (page : List ℕ) (lrsn : ℕ) → length page ≡ 4096 → get_or (set_lrsn page lrsn) 5 0 ≡ 2
version_at_five page lrsn l = number_off page lrsn 5 l (inl (omega arith)) ∙ version_there page l

-- two pages that differ in their stamps alone
record Agree (a b : List ℕ) : Type 0 where
  one : length a ≡ 4096
  two : length b ≡ 4096
  same : (k : ℕ) → (k < 5) ⊎ (6 ≤ k) → (k < 16) ⊎ (26 ≤ k) → get_or a k 0 ≡ get_or b k 0

off_same : (a b : List ℕ) (lrsn k : ℕ) → Agree a b → (k < 5) ⊎ (6 ≤ k) → (k < 16) ⊎ (26 ≤ k) → get_or (set_lrsn a lrsn) k 0 ≡ get_or (set_lrsn b lrsn) k 0
off_same a b lrsn k h version number =
    stamp_byte a lrsn k h.one version number ∙ h.same k version number ∙ sym (stamp_byte b lrsn k h.two version number)

front_same : (a b : List ℕ) (lrsn k : ℕ) → Agree a b → k < 16 → get_or (set_lrsn a lrsn) k 0 ≡ get_or (set_lrsn b lrsn) k 0
front_same a b lrsn k h lt =
    elim (cases_lt k 5) as (λ _. get_or (set_lrsn a lrsn) k 0 ≡ get_or (set_lrsn b lrsn) k 0) [
      | inl low ↦ off_same a b lrsn k h (inl low) (inl lt)
      | inr le ↦ elim (cases_lt k 6) as (λ _. get_or (set_lrsn a lrsn) k 0 ≡ get_or (set_lrsn b lrsn) k 0) [
        | inl few ↦
            let five : k ≡ 5 = omega arith in
            ap (λ (i : ℕ). get_or (set_lrsn a lrsn) i 0) five ∙ version_at_five a lrsn h.one ∙ sym (version_at_five b lrsn h.two) ∙ ap (λ (i : ℕ). get_or (set_lrsn b lrsn) i 0) (sym five)
        | inr past ↦ off_same a b lrsn k h (inr past) (inl lt)
      ]
    ]

byte_same : (a b : List ℕ) (lrsn k : ℕ) → Agree a b → get_or (set_lrsn a lrsn) k 0 ≡ get_or (set_lrsn b lrsn) k 0
byte_same a b lrsn k h =
    elim (cases_lt k 16) as (λ _. get_or (set_lrsn a lrsn) k 0 ≡ get_or (set_lrsn b lrsn) k 0) [
      | inl lt ↦ front_same a b lrsn k h lt
      | inr le ↦ elim (cases_lt k 26) as (λ _. get_or (set_lrsn a lrsn) k 0 ≡ get_or (set_lrsn b lrsn) k 0) [
        | inl lt ↦ stamp_at a b lrsn k h.one h.two le lt
        | inr past ↦ off_same a b lrsn k h (inr (omega arith)) (inr past)
      ]
    ]

stamped_same : (a b : List ℕ) (lrsn : ℕ) → Agree a b → set_lrsn a lrsn ≡ set_lrsn b lrsn
stamped_same a b lrsn h =
    let one = length_stamp a lrsn h.one in
    let two = length_stamp b lrsn h.two in
    ext_get_or 0 (set_lrsn a lrsn) (set_lrsn b lrsn) (omega (arith, one, two)) (λ k _. byte_same a b lrsn k h)

stamp_agrees : (page : List ℕ) (lrsn : ℕ) → length page ≡ 4096 → Agree (set_lrsn page lrsn) page
stamp_agrees page lrsn l = record { one = length_stamp page lrsn l; two = l; same = λ k version number. stamp_byte page lrsn k l version number }

length_in : (page : List ℕ) (p : Patch) → length page ≡ 4096 → LiesInPage p → length (patched page p.offset p.bytes) ≡ 4096
length_in page p l h = length_patched page p.bytes p.offset (omega (arith, h, l)) ∙ l

-- the bytes of a patch are the same in both, and elsewhere they agree
patch_byte : (a b bytes : List ℕ) (at k : ℕ) → length a ≡ 4096 → length b ≡ 4096 → at + length bytes ≤ 4096 → get_or a k 0 ≡ get_or b k 0 → get_or (patched a at bytes) k 0 ≡ get_or (patched b at bytes) k 0
patch_byte a b bytes at k l m within same =
    elim (cases_lt k at) as (λ _. get_or (patched a at bytes) k 0 ≡ get_or (patched b at bytes) k 0) [
      | inl lt ↦ byte_before a bytes at k (omega arith) lt ∙ same ∙ sym (byte_before b bytes at k (omega arith) lt)
      | inr le ↦ elim (cases_lt k (at + length bytes)) as (λ _. get_or (patched a at bytes) k 0 ≡ get_or (patched b at bytes) k 0) [
        | inl lt ↦
            let there : k ≡ at + (k - at) = omega arith in
            ap (λ (i : ℕ). get_or (patched a at bytes) i 0) there
            ∙ byte_inside a bytes at (k - at) (omega arith) (omega arith)
            ∙ sym (byte_inside b bytes at (k - at) (omega arith) (omega arith))
            ∙ ap (λ (i : ℕ). get_or (patched b at bytes) i 0) (sym there)
        | inr past ↦ byte_behind a bytes at k (omega arith) past ∙ same ∙ sym (byte_behind b bytes at k (omega arith) past)
      ]
    ]

patch_agrees : (a b : List ℕ) (p : Patch) → Agree a b → LiesInPage p → Agree (patched a p.offset p.bytes) (patched b p.offset p.bytes)
patch_agrees a b p h within = record {
  one = length_in a p h.one within;
  two = length_in b p h.two within;
  same = λ k version number. patch_byte a b p.bytes p.offset k h.one h.two within (h.same k version number);
}

all_agree : (a b : List ℕ) (ps : List Patch) → Agree a b → AllLieInPage ps → Agree (all_patched a ps) (all_patched b ps)
all_agree a b [] h within = h
all_agree a b (p ∷ ps) h within = all_agree (patched a p.offset p.bytes) (patched b p.offset p.bytes) ps (patch_agrees a b p h within.0) within.1

pub stamped_once : (lrsn : ℕ) (page : List ℕ) (p : Patch) (ps : List Patch) → length page ≡ 4096 → AllLieInPage (p ∷ ps) → all_stamped lrsn page (p ∷ ps) ≡ set_lrsn (all_patched page (p ∷ ps)) lrsn
stamped_once lrsn page p [] l h = refl
stamped_once lrsn page p (q ∷ qs) l h =
    let new : List ℕ = patched page p.offset p.bytes in
    let first = length_in page p l h.0 in
    stamped_once lrsn (set_lrsn new lrsn) q qs (length_stamp new lrsn first) h.1
    ∙ stamped_same (all_patched (set_lrsn new lrsn) (q ∷ qs)) (all_patched new (q ∷ qs)) lrsn (all_agree (set_lrsn new lrsn) new (q ∷ qs) (stamp_agrees new lrsn first) h.1)
