-- What a compensation makes of the page of its row.
use Rattle.std.proofs.Common.{◌≡◌, ℕ, zero, suc, ◌+◌, ◌-◌, ◌*◌, ◌^◌, ◌<◌, ◌≤◌, Bool, true, false, List, [], ◌∷◌, length, take, drop, replicate, get_or, ◌++◌, Option, Some, None, Ok, inl, inr, refl, sym, ap, subst, ◌∙◌, arith, append_assoc}
use Rattle.std.specs.Prelude.{◌==◌, nat_le, not, ◌&&◌, if◌then◌else◌, slice_index, IfSome}
use Rattle.std.specs.Str.{bytes_eq}
use Rattle.std.proofs.lemmas.Bool.{cases_Bool, cases_lt, eqb-true, eq-eqb, ne_eqb, both_ways}
use Rattle.std.proofs.Math.Seq.{get_or-append_seam}
use Rattle.std.proofs.lemmas.List.{take_all, length-drop, length-append, length-replicate, length-take-le, get_or-drop, get_or-take, get_or_append_left}
use Rattle.byteorder.specs.Endian.{big_bytes, big_number}
use Rattle.ds_base.specs.Values.{IsValue}
use Rattle.ds_base.specs.declared.names.PageId.{PageId}
use Rattle.ds_model.specs.declared.log.RowChange.{RowChange}
use Rattle.ds_model.specs.RecordBytes.{StateIsAllowed, ChangeIsAllowed}
use Rattle.page_format.specs.Fields.{number_in, lrsn_of, patched, set_version, set_lrsn}
use Rattle.page_format.specs.declared.patch.Patch.{Patch}
use Rattle.page_format.specs.Header.{mark, kind_of, is_version, may_have, most, first_fault, fields, header_in, is_zeros, empty_header, judged, header_of}
use Rattle.page_format.specs.declared.header.Header.{Header}
use Rattle.page_format.specs.declared.header.PageKind.TheVariants as kind
use Rattle.heap_space.specs.Layout.{slot_at}
use Rattle.heap_space.specs.Slots.{content, slot_in, head, image, fault_in, fields as slot_fields}
use Rattle.heap_space.specs.Written.{after_patch}
use Rattle.page_images.specs.Parts.{part, AreApart, IsOffStamp, Lies}
use Rattle.page_chain.specs.Chains.{row_patch}
use Rattle.sound_disk.specs.Layouts.{IsOfKind, count_in, has_clean_header}
use Rattle.sound_disk.specs.Heaps.{is_given, IsSlot, IsRowPage}

-- ---- laws of pages

-- what is read of an image, and that it has no fault
abbrev pub ReadsImage : Type 0
ReadsImage = (key : ℕ) (value : Option (List ℕ)) → key < 2 ^ 64 → content (image key value) ≡ Some (key, value)

abbrev pub AllowsImage : Type 0
AllowsImage = (page : List ℕ) (slot key : ℕ) (value : Option (List ℕ)) → IfSome value IsValue → slot_in page slot ≡ image key value → fault_in page slot ≡ None

-- what is read of a page after a patch and its stamp
pub record PageLaws : Type 0 where
  pub whole : (lrsn : ℕ) (page : List ℕ) (p : Patch) → Lies page p → length (after_patch lrsn page p) ≡ 4096
  pub put : (lrsn : ℕ) (page : List ℕ) (p : Patch) → Lies page p → IsOffStamp p.offset (length p.bytes) → part p.offset (length p.bytes) (after_patch lrsn page p) ≡ p.bytes
  pub kept : (lrsn : ℕ) (page : List ℕ) (p : Patch) (at width : ℕ) → Lies page p → IsOffStamp at width → AreApart at width p.offset (length p.bytes) → part at width (after_patch lrsn page p) ≡ part at width page
  pub number : (page : List ℕ) (at width : ℕ) → number_in page at width ≡ big_number width (part at width page)
  pub stamp : (lrsn : ℕ) (page : List ℕ) → length page ≡ 4096 → lrsn < 2 ^ 80 → lrsn_of (set_lrsn page lrsn) ≡ lrsn
  pub reads : ReadsImage
  pub allows : AllowsImage

byte_of_part : (page : List ℕ) (at : ℕ) → get_or page at 0 ≡ get_or (part at 1 page) 0 0
byte_of_part page at =
    let here : at ≡ at + 0 = omega arith in
    ap (λ (k : ℕ). get_or page k 0) here ∙ sym (get_or-drop at page 0 0) ∙ sym (get_or-take 1 (drop at page) 0 0 (omega arith))

length_kept : (page : List ℕ) (off : ℕ) (bytes : List ℕ) → off + length bytes ≤ length page → length (patched page off bytes) ≡ length page
unfolding patched
length_kept page off bytes fits =
    omega (arith, length-append (take off page ++ bytes) (drop (off + length bytes) page), length-append (take off page) bytes, length-take-le off page (omega arith), length-drop (off + length bytes) page)

version_whole : (page : List ℕ) → length page ≡ 4096 → length (set_version page) ≡ 4096
unfolding set_version
version_whole page h = length_kept page 5 (2 ∷ []) (omega (arith, h)) ∙ h

byte_at : (xs : List ℕ) (y : ℕ) (ys : List ℕ) (n : ℕ) → length xs ≡ n → get_or ((xs ++ y ∷ []) ++ ys) n 0 ≡ y
byte_at xs y ys n e =
    ap (λ (l : List ℕ). get_or l n 0) (append_assoc xs (y ∷ []) ys) ∙ ap (λ (k : ℕ). get_or (xs ++ y ∷ ys) k 0) (sym e) ∙ get_or-append_seam xs y ys 0

version_byte : (page : List ℕ) → length page ≡ 4096 → get_or (set_version page) 5 0 ≡ 2
unfolding set_version patched
version_byte page h = byte_at (take 5 page) 2 (drop 6 page) 5 (length-take-le 5 page (omega (arith, h)))

front_byte : (xs ys zs : List ℕ) (k n : ℕ) → length xs ≡ n → k < n → get_or ((xs ++ ys) ++ zs) k 0 ≡ get_or xs k 0
front_byte xs ys zs k n e lt = ap (λ (l : List ℕ). get_or l k 0) (append_assoc xs ys zs) ∙ get_or_append_left xs (ys ++ zs) 0 k (omega (arith, e, lt))

-- a stamped page is of the version in which pages are written
stamp_version : (lrsn : ℕ) (page : List ℕ) → length page ≡ 4096 → get_or (set_lrsn page lrsn) 5 0 ≡ 2
unfolding set_lrsn patched
stamp_version lrsn page h =
    let v = version_whole page h in
    front_byte (take 16 (set_version page)) (big_bytes 10 lrsn) (drop (16 + length (big_bytes 10 lrsn)) (set_version page)) 5 16 (length-take-le 16 (set_version page) (omega (arith, v))) (omega arith)
    ∙ get_or-take 16 (set_version page) 5 0 (omega arith)
    ∙ version_byte page h

-- ---- the bytes

-- the page of the row's slot, and the number of the compensation
pub record IsPatched (page : List ℕ) (c : RowChange) (lrsn : ℕ) : Type 0 where
  pub whole : length page ≡ 4096
  pub allowed : ChangeIsAllowed c
  pub low : 1 ≤ lrsn
  pub high : lrsn < 2 ^ 80

abbrev pub behind : List ℕ → RowChange → ℕ → List ℕ
behind page c lrsn = after_patch lrsn page (row_patch c)

pub image_length : (key : ℕ) (value : Option (List ℕ)) → StateIsAllowed value → length (image key value) ≡ 128
image_length key None h = refl
image_length key (Some value) h =
    let fits = h.0 in
    let blank : ℕ = 0 in
    let rest : List ℕ = replicate (112 - length value) blank in
    let long : length rest ≡ 112 - length value = length-replicate (112 - length value) blank in
    let both : length (value ++ rest) ≡ length value + length rest = length-append value rest in
    let all : length (image key (Some value)) ≡ 16 + length (value ++ rest) = length-append (head 2 (length value) key) (value ++ rest) in
    omega (arith, fits, long, both, all)

lies : (page : List ℕ) (c : RowChange) (lrsn : ℕ) → IsPatched page c lrsn → Lies page (row_patch c)
lies page c lrsn h = record { whole = h.whole; within = omega (arith, image_length c.key c.after h.allowed.after_is, h.allowed.slot_in) }

size_is : (c : RowChange) → ChangeIsAllowed c → length (image c.key c.after) ≡ 128
size_is c h = image_length c.key c.after h.after_is

-- what lies apart from the slot and the stamp stays
kept : PageLaws → (page : List ℕ) (c : RowChange) (lrsn : ℕ) → IsPatched page c lrsn → (at width : ℕ) → IsOffStamp at width → AreApart at width (slot_at c.place.slot) 128 → part at width (behind page c lrsn) ≡ part at width page
kept l page c lrsn h at width free apart =
    l.kept lrsn page (row_patch c) at width (lies page c lrsn h) free
    (subst (λ (n : ℕ). AreApart at width (slot_at c.place.slot) n) (sym (size_is c h.allowed)) apart)

head_kept : PageLaws → (page : List ℕ) (c : RowChange) (lrsn : ℕ) → IsPatched page c lrsn → (at width : ℕ) → IsOffStamp at width → at + width ≤ 32 → part at width (behind page c lrsn) ≡ part at width page
head_kept l page c lrsn h at width free in_head = kept l page c lrsn h at width free (inl (omega (arith, in_head)))

number_kept : PageLaws → (page : List ℕ) (c : RowChange) (lrsn : ℕ) → IsPatched page c lrsn → (at width : ℕ) → IsOffStamp at width → at + width ≤ 32 → number_in (behind page c lrsn) at width ≡ number_in page at width
number_kept l page c lrsn h at width free in_head =
    l.number (behind page c lrsn) at width ∙ ap (big_number width) (head_kept l page c lrsn h at width free in_head) ∙ sym (l.number page at width)

byte_kept : PageLaws → (page : List ℕ) (c : RowChange) (lrsn : ℕ) → IsPatched page c lrsn → (at : ℕ) → IsOffStamp at 1 → at + 1 ≤ 32 → slice_index (behind page c lrsn) at ≡ slice_index page at
byte_kept l page c lrsn h at free in_head =
    byte_of_part (behind page c lrsn) at ∙ ap (λ (l : List ℕ). get_or l 0 0) (head_kept l page c lrsn h at 1 free in_head) ∙ sym (byte_of_part page at)

pub count_kept : PageLaws → (page : List ℕ) (c : RowChange) (lrsn : ℕ) → IsPatched page c lrsn → count_in (behind page c lrsn) ≡ count_in page
count_kept l page c lrsn h = number_kept l page c lrsn h 26 2 (inr (omega arith), inr (omega arith)) (omega arith)

rest_is : (at : ℕ) (page : List ℕ) → length page ≡ 4096 → part at (4096 - at) page ≡ drop at page
rest_is at page whole = take_all (4096 - at) (drop at page) (omega (arith, length-drop at page, whole))

rest_kept : PageLaws → (page : List ℕ) (c : RowChange) (lrsn : ℕ) → IsPatched page c lrsn → (at : ℕ) → slot_at c.place.slot + 128 ≤ at → drop at (behind page c lrsn) ≡ drop at page
rest_kept l page c lrsn h at past =
    sym (rest_is at (behind page c lrsn) (l.whole lrsn page (row_patch c) (lies page c lrsn h)))
    ∙ kept l page c lrsn h at (4096 - at) (inr (omega (arith, past)), inr (omega (arith, past))) (inr past)
    ∙ rest_is at page h.whole

-- ---- slots

pub slot_put : PageLaws → (page : List ℕ) (c : RowChange) (lrsn : ℕ) → IsPatched page c lrsn → slot_in (behind page c lrsn) c.place.slot ≡ image c.key c.after
slot_put l page c lrsn h =
    ap (λ (n : ℕ). part (slot_at c.place.slot) n (behind page c lrsn)) (sym (size_is c h.allowed))
    ∙ l.put lrsn page (row_patch c) (lies page c lrsn h) (inr (omega arith), inr (omega arith))

apart_by : (s t : ℕ) → (s ≡ t → ⊥) → AreApart (32 + 128 * t) 128 (32 + 128 * s) 128
apart_by s t other = elim (cases_lt s t) [
  | inl before ↦ inr (omega (arith, before))
  | inr after ↦ elim (cases_lt t s) [
    | inl less ↦ inl (omega (arith, less))
    | inr least ↦ absurd (other (omega (arith, after, least)))
  ]
]

slots_apart : (s t : ℕ) → (s == t) ≡ false → AreApart (32 + 128 * t) 128 (32 + 128 * s) 128
slots_apart s t other = apart_by s t (λ e. both_ways (s == t) other (eq-eqb s t e))

pub slot_kept : PageLaws → (page : List ℕ) (c : RowChange) (lrsn : ℕ) → IsPatched page c lrsn → (s : ℕ) → (c.place.slot == s) ≡ false → slot_in (behind page c lrsn) s ≡ slot_in page s
slot_kept l page c lrsn h s other =
    kept l page c lrsn h (slot_at s) 128 (inr (omega arith), inr (omega arith)) (slots_apart c.place.slot s other)

-- ---- the header

fault_of : Bool → Bool → Bool → Bool → Bool → Bool → Bool → Option ℕ
fault_of a b c d e f g = first_fault ((0, a) ∷ (4, b) ∷ (5, c) ∷ (6, d) ∷ (8, e) ∷ (16, f) ∷ (26, g) ∷ [])

-- a page of the version in which pages are written, with a number
right_stamp : (a b c d e f g : Bool) → fault_of a b c d e f g ≡ None → (c ≡ true) × (f ≡ true)
unfolding fault_of
right_stamp false b c d e f g h = absurd cc
right_stamp true false c d e f g h = absurd cc
right_stamp true true false d e f g h = absurd cc
right_stamp true true true false e f g h = absurd cc
right_stamp true true true true false f g h = absurd cc
right_stamp true true true true true false g h = absurd cc
right_stamp true true true true true true g h = (refl, refl)

same_fault : (a b c d e f g i j k l m n o : Bool) → a ≡ i → b ≡ j → c ≡ k → d ≡ l → e ≡ m → f ≡ n → g ≡ o → fault_of a b c d e f g ≡ fault_of i j k l m n o
same_fault a b c d e f g i j k l m n o p q r s t u v =
    ap (λ (x : Bool). fault_of x b c d e f g) p
    ∙ ap (λ (x : Bool). fault_of i x c d e f g) q
    ∙ ap (λ (x : Bool). fault_of i j x d e f g) r
    ∙ ap (λ (x : Bool). fault_of i j k x e f g) s
    ∙ ap (λ (x : Bool). fault_of i j k l x f g) t
    ∙ ap (λ (x : Bool). fault_of i j k l m x g) u
    ∙ ap (λ (x : Bool). fault_of i j k l m n x) v

faults_are : (page : List ℕ) (id : PageId) → first_fault (fields page id)
    ≡ fault_of (bytes_eq (take 4 page) mark) (may_have id (kind_of (slice_index page 4))) (is_version (slice_index page 5)) (number_in page 6 2 == id.set) (number_in page 8 4 == id.number) (not (lrsn_of page == 0))
    (nat_le (number_in page 26 2) (most (kind_of (slice_index page 4))))
unfolding fault_of
faults_are page id = refl

-- what a page of rows has for a header
record IsHeaded (page : List ℕ) (id : PageId) : Type 0 where
  some : is_zeros page ≡ false
  fault_none : first_fault (fields page id) ≡ None
  kind_is : (header_in page).kind ≡ kind.Heap

headed_when : (z : Bool) (fault : Option ℕ) (h : Header) → IsOfKind kind.Heap (if z then Ok empty_header else judged fault h) → (z ≡ false) × (fault ≡ None) × (h.kind ≡ kind.Heap)
headed_when true fault h is = absurd cc
headed_when false None h is = (refl, refl, is)
headed_when false (Some at) h is = absurd is

headed : (page : List ℕ) (id : PageId) → IsOfKind kind.Heap (header_of page id) → IsHeaded page id
unfolding header_of
headed page id is = let p = headed_when (is_zeros page) (first_fault (fields page id)) (header_in page) is in record { some = p.0; fault_none = p.1; kind_is = p.2 }

header_when : (z : Bool) (fault : Option ℕ) (h : Header) → z ≡ false → fault ≡ None → (if z then Ok empty_header else judged fault h) ≡ Ok h
header_when true fault h e f = absurd cc
header_when false None h e f = refl
header_when false (Some at) h e f = absurd cc

header_is : (page : List ℕ) (id : PageId) → IsHeaded page id → header_of page id ≡ Ok (header_in page)
unfolding header_of
header_is page id h = header_when (is_zeros page) (first_fault (fields page id)) (header_in page) h.some h.fault_none

pub row_header : (page : List ℕ) (id : PageId) → IsOfKind kind.Heap (header_of page id) → (header_of page id ≡ Ok (header_in page)) × ((header_in page).kind ≡ kind.Heap)
row_header page id is = let h = headed page id is in (header_is page id h, h.kind_is)

-- no page with a version is zeros
and_not : (a b : Bool) → b ≡ false → (a && b) ≡ false
and_not true b h = h
and_not false b h = refl

not_zeros : (page : List ℕ) (k n : ℕ) → slice_index page k ≡ n → (n == 0) ≡ false → is_zeros page ≡ false
not_zeros [] zero n h some = absurd (both_ways (n == 0) some (ap (λ (b : ℕ). b == 0) (sym h)))
not_zeros [] (suc k) n h some = absurd (both_ways (n == 0) some (ap (λ (b : ℕ). b == 0) (sym h)))
not_zeros (x ∷ xs) zero n h some = ap (λ (b : ℕ). (b == 0) && is_zeros xs) h ∙ ap (λ (b : Bool). b && is_zeros xs) some
not_zeros (x ∷ xs) (suc k) n h some = and_not (x == 0) (is_zeros xs) (not_zeros xs k n h some)

put_whole : (page : List ℕ) (c : RowChange) (lrsn : ℕ) → IsPatched page c lrsn → length (patched page (slot_at c.place.slot) (image c.key c.after)) ≡ 4096
put_whole page c lrsn h = let w = h.whole in let fits = (lies page c lrsn h).within in length_kept page (slot_at c.place.slot) (image c.key c.after) (omega (arith, w, fits)) ∙ w

version_is : (page : List ℕ) (c : RowChange) (lrsn : ℕ) → IsPatched page c lrsn → slice_index (behind page c lrsn) 5 ≡ 2
version_is page c lrsn h = stamp_version lrsn (patched page (slot_at c.place.slot) (image c.key c.after)) (put_whole page c lrsn h)

number_is : PageLaws → (page : List ℕ) (c : RowChange) (lrsn : ℕ) → IsPatched page c lrsn → lrsn_of (behind page c lrsn) ≡ lrsn
number_is l page c lrsn h = l.stamp lrsn (patched page (slot_at c.place.slot) (image c.key c.after)) (put_whole page c lrsn h) h.high

headed_behind : PageLaws → (id : PageId) (page : List ℕ) (c : RowChange) (lrsn : ℕ) → IsPatched page c lrsn → IsHeaded page id → IsHeaded (behind page c lrsn) id
headed_behind l id page c lrsn h is =
    let new = behind page c lrsn in
    let kind_same : slice_index new 4 ≡ slice_index page 4 = byte_kept l page c lrsn h 4 (inl (omega arith), inl (omega arith)) (omega arith) in
    let stamp = right_stamp (bytes_eq (take 4 page) mark) (may_have id (kind_of (slice_index page 4))) (is_version (slice_index page 5)) (number_in page 6 2 == id.set) (number_in page 8 4 == id.number) (not (lrsn_of page == 0))
    (nat_le (number_in page 26 2) (most (kind_of (slice_index page 4)))) (sym (faults_are page id) ∙ is.fault_none) in
    let drawn : not (lrsn_of new == 0) ≡ true = ap (λ (n : ℕ). not (n == 0)) (number_is l page c lrsn h) ∙ ap not (ne_eqb lrsn 0 (λ e. let low = h.low in omega (arith, low, e))) in
    record {
      some = not_zeros new 5 2 (version_is page c lrsn h) refl;
      fault_none = faults_are new id
          ∙ same_fault (bytes_eq (take 4 new) mark) (may_have id (kind_of (slice_index new 4))) (is_version (slice_index new 5)) (number_in new 6 2 == id.set) (number_in new 8 4 == id.number) (not (lrsn_of new == 0))
          (nat_le (number_in new 26 2) (most (kind_of (slice_index new 4))))
          (bytes_eq (take 4 page) mark) (may_have id (kind_of (slice_index page 4))) (is_version (slice_index page 5)) (number_in page 6 2 == id.set) (number_in page 8 4 == id.number) (not (lrsn_of page == 0))
          (nat_le (number_in page 26 2) (most (kind_of (slice_index page 4))))
          (ap (λ (l : List ℕ). bytes_eq l mark) (head_kept l page c lrsn h 0 4 (inl (omega arith), inl (omega arith)) (omega arith)))
          (ap (λ (n : ℕ). may_have id (kind_of n)) kind_same)
          (ap is_version (version_is page c lrsn h) ∙ sym stamp.0)
          (ap (λ (n : ℕ). n == id.set) (number_kept l page c lrsn h 6 2 (inr (omega arith), inl (omega arith)) (omega arith)))
          (ap (λ (n : ℕ). n == id.number) (number_kept l page c lrsn h 8 4 (inr (omega arith), inl (omega arith)) (omega arith)))
          (drawn ∙ sym stamp.1)
          (ap (λ (n : ℕ). nat_le n (most (kind_of (slice_index new 4)))) (count_kept l page c lrsn h) ∙ ap (λ (n : ℕ). nat_le (number_in page 26 2) (most (kind_of n))) kind_same)
          ∙ sym (faults_are page id) ∙ is.fault_none;
      kind_is = ap kind_of kind_same ∙ is.kind_is;
    }

-- ---- a page of rows

clean_kept : PageLaws → (page : List ℕ) (c : RowChange) (lrsn : ℕ) → IsPatched page c lrsn → has_clean_header (behind page c lrsn) ≡ has_clean_header page
clean_kept l page c lrsn h =
    ap (λ (l : List ℕ). is_zeros l && is_zeros (part 28 4 (behind page c lrsn))) (head_kept l page c lrsn h 12 4 (inr (omega arith), inl (omega arith)) (omega arith))
    ∙ ap (λ (l : List ℕ). is_zeros (part 12 4 page) && is_zeros l) (head_kept l page c lrsn h 28 4 (inr (omega arith), inr (omega arith)) (omega arith))

fault_same : (page other : List ℕ) (s : ℕ) → slot_in other s ≡ slot_in page s → fault_in other s ≡ fault_in page s
unfolding fault_in
fault_same page other s e = ap (λ (bytes : List ℕ). first_fault (slot_fields (slot_at s) bytes)) e

pub said_put : PageLaws → (page : List ℕ) (c : RowChange) (lrsn : ℕ) → IsPatched page c lrsn → content (slot_in (behind page c lrsn) c.place.slot) ≡ Some (c.key, c.after)
said_put l page c lrsn h = ap content (slot_put l page c lrsn h) ∙ l.reads c.key c.after h.allowed.key_in

value_is : (v : Option (List ℕ)) → StateIsAllowed v → IfSome v IsValue
value_is None h = tt
value_is (Some value) h = h

slot_right : PageLaws → (page : List ℕ) (c : RowChange) (lrsn : ℕ) → IsPatched page c lrsn → (s : ℕ) → IsSlot page s → IsSlot (behind page c lrsn) s
slot_right l page c lrsn h s is = elim (cases_Bool (c.place.slot == s)) [
  | inl same ↦ subst (λ (k : ℕ). IsSlot (behind page c lrsn) k) (eqb-true c.place.slot s same) (record {
    fault_none = l.allows (behind page c lrsn) c.place.slot c.key c.after (value_is c.after h.allowed.after_is) (slot_put l page c lrsn h);
    given = ap is_given (said_put l page c lrsn h);
  })
  | inr other ↦ (let e = slot_kept l page c lrsn h s other in record {
    fault_none = fault_same page (behind page c lrsn) s e ∙ is.fault_none;
    given = ap (λ (bytes : List ℕ). is_given (content bytes)) e ∙ is.given;
  })
]

pub row_page : PageLaws → (id : PageId) (page : List ℕ) (c : RowChange) (lrsn : ℕ) → IsPatched page c lrsn → c.place.slot < count_in page → IsRowPage id page → IsRowPage id (behind page c lrsn)
row_page l id page c lrsn h given is =
    let count = count_kept l page c lrsn h in
    let e = headed_behind l id page c lrsn h (headed page id is.kind_is) in
    record {
      kind_is = subst (IsOfKind kind.Heap) (sym (header_is (behind page c lrsn) id e)) e.kind_is;
      clean = clean_kept l page c lrsn h ∙ is.clean;
      slots = λ s few. slot_right l page c lrsn h s (is.slots s (omega (arith, few, count)));
      rest = ap (λ (n : ℕ). is_zeros (drop (slot_at n) (behind page c lrsn))) count
          ∙ ap (λ (l : List ℕ). is_zeros l) (rest_kept l page c lrsn h (slot_at (count_in page)) (omega (arith, given)))
          ∙ is.rest;
    }
