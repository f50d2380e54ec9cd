-- A page of version 1 that is written in version 2 has the header that it had.
use Rattle.std.proofs.Common.{◌≡◌, ◌≤◌, ◌<◌, ◌^◌, ℕ, zero, suc, Bool, true, false, not, ◌==◌, ◌&&◌, nat_le, if◌then◌else◌, inl, inr, List, [], ◌∷◌, ◌+◌, length, take, get_or, Result, Ok, refl, sym, ap, ◌∙◌, arith}
use Rattle.std.specs.Prelude.{slice_index}
use Rattle.std.specs.Str.{bytes_eq}
use Rattle.std.proofs.lemmas.Bool.{true≢false, eqb-true}
use Rattle.byteorder.specs.Endian.{big_number}
use Rattle.ds_base.specs.declared.names.PageId.{PageId}
use Rattle.page_format.specs.Fields.{number_in, lrsn_of, is_old, set_lrsn, renewed}
use Rattle.page_format.specs.Header.{mark, kind_of, is_version, may_have, most, first_fault, is_zeros, empty_header, judged, header_of}
use Rattle.page_format.specs.declared.header.Header.{Header}
use Rattle.page_format.specs.declared.header.NotAPage.{NotAPage}
use Rattle.page_images.specs.Parts.{part, IsOffStamp}
use Rattle.page_images.proofs.Parts.{number_of_part, byte_of_part, stamp_kept, stamp_version, stamp_read}

-- ---- what is read of the page

pub renewed_kept : (page : List ℕ) (at width : ℕ) → length page ≡ 4096 → IsOffStamp at width → part at width (renewed page) ≡ part at width page
unfolding renewed
renewed_kept page at width whole free = stamp_kept (lrsn_of page) page at width whole free

number_same : (page : List ℕ) (at width : ℕ) → length page ≡ 4096 → IsOffStamp at width → number_in (renewed page) at width ≡ number_in page at width
number_same page at width whole free =
    number_of_part (renewed page) at width ∙ ap (big_number width) (renewed_kept page at width whole free) ∙ sym (number_of_part page at width)

byte_same : (page : List ℕ) (at : ℕ) → length page ≡ 4096 → IsOffStamp at 1 → slice_index (renewed page) at ≡ slice_index page at
byte_same page at whole free =
    byte_of_part (renewed page) at ∙ ap (λ (l : List ℕ). get_or l 0 0) (renewed_kept page at 1 whole free) ∙ sym (byte_of_part page at)

version_after : (page : List ℕ) → length page ≡ 4096 → slice_index (renewed page) 5 ≡ 2
unfolding renewed
version_after page whole = stamp_version (lrsn_of page) page whole

number_after : (page : List ℕ) → length page ≡ 4096 → lrsn_of page < 2 ^ 80 → lrsn_of (renewed page) ≡ lrsn_of page
unfolding renewed
number_after page whole low = stamp_read (lrsn_of page) page whole low

-- ---- no page of zeros has a version

and_not : (a b : Bool) → b ≡ false → (a && b) ≡ false
and_not true b h = h
and_not false b h = refl

not_zeros : (page : List ℕ) (k n : ℕ) → slice_index page k ≡ n → (n == 0) ≡ false → is_zeros page ≡ false
not_zeros [] zero n h some = absurd (true≢false (ap (λ (b : ℕ). b == 0) h ∙ some))
not_zeros [] (suc k) n h some = absurd (true≢false (ap (λ (b : ℕ). b == 0) h ∙ some))
not_zeros (x ∷ xs) zero n h some = ap (λ (b : ℕ). (b == 0) && is_zeros xs) h ∙ ap (λ (b : Bool). b && is_zeros xs) some
not_zeros (x ∷ xs) (suc k) n h some = and_not (x == 0) (is_zeros xs) (not_zeros xs k n h some)

-- ---- the header

-- what the header is by what is read
abbrev answer : Bool → List ℕ → ℕ → Bool → ℕ → ℕ → ℕ → ℕ → PageId → Result Header NotAPage
answer none first kind version set number lrsn count id =
    if none then Ok empty_header
    else judged (first_fault (
    (0, bytes_eq first mark)
    ∷ (4, may_have id (kind_of kind))
    ∷ (5, version)
    ∷ (6, set == id.set)
    ∷ (8, number == id.number)
    ∷ (16, not (lrsn == 0))
    ∷ (26, nat_le count (most (kind_of kind)))
    ∷ []))
    (record { kind = kind_of kind; lrsn = lrsn; count = count })

answered : (page : List ℕ) (id : PageId) → header_of page id ≡ answer (is_zeros page) (take 4 page) (slice_index page 4) (is_version (slice_index page 5)) (number_in page 6 2) (number_in page 8 4) (lrsn_of page) (number_in page 26 2) id
unfolding header_of
answered page id = refl

same_answer : (a b : Bool) (c d : List ℕ) (e f : ℕ) (g h : Bool) (i j k l m n o p : ℕ) (id : PageId) → a ≡ b → c ≡ d → e ≡ f → g ≡ h → i ≡ j → k ≡ l → m ≡ n → o ≡ p → answer a c e g i k m o id ≡ answer b d f h j l n p id
same_answer a b c d e f g h i j k l m n o p id s t u v w x y z =
    ap (λ (q : Bool). answer q c e g i k m o id) s
    ∙ ap (λ (q : List ℕ). answer b q e g i k m o id) t
    ∙ ap (λ (q : ℕ). answer b d q g i k m o id) u
    ∙ ap (λ (q : Bool). answer b d f q i k m o id) v
    ∙ ap (λ (q : ℕ). answer b d f h q k m o id) w
    ∙ ap (λ (q : ℕ). answer b d f h j q m o id) x
    ∙ ap (λ (q : ℕ). answer b d f h j l q o id) y
    ∙ ap (λ (q : ℕ). answer b d f h j l n q id) z

pub renewed_header : (page : List ℕ) (id : PageId) → length page ≡ 4096 → is_old page ≡ true → lrsn_of page < 2 ^ 80 → header_of (renewed page) id ≡ header_of page id
renewed_header page id whole old low =
    let new = renewed page in
    let one : slice_index page 5 ≡ 1 = eqb-true (slice_index page 5) 1 old in
    let two : slice_index new 5 ≡ 2 = version_after page whole in
    answered new id
    ∙ same_answer (is_zeros new) (is_zeros page) (take 4 new) (take 4 page) (slice_index new 4) (slice_index page 4) (is_version (slice_index new 5)) (is_version (slice_index page 5))
    (number_in new 6 2) (number_in page 6 2) (number_in new 8 4) (number_in page 8 4) (lrsn_of new) (lrsn_of page) (number_in new 26 2) (number_in page 26 2) id
    (not_zeros new 5 2 two refl ∙ sym (not_zeros page 5 1 one refl))
    (renewed_kept page 0 4 whole (inl (omega arith), inl (omega arith)))
    (byte_same page 4 whole (inl (omega arith), inl (omega arith)))
    (ap is_version two ∙ sym (ap is_version one))
    (number_same page 6 2 whole (inr (omega arith), inl (omega arith)))
    (number_same page 8 4 whole (inr (omega arith), inl (omega arith)))
    (number_after page whole low)
    (number_same page 26 2 whole (inr (omega arith), inr (omega arith)))
    ∙ sym (answered page id)
