-- What a page begins with, and what its header says.
use Rattle.std.proofs.Common.{◌≡◌, ◌≤◌, ◌<◌, ◌^◌, ℕ, zero, suc, Bool, true, false, not, ◌==◌, nat_le, if◌then◌else◌, List, [], ◌∷◌, ◌++◌, ◌+◌, ◌*◌, length, take, drop, Option, None, inl, inr, refl, sym, ap, ◌∙◌, arith}
use Rattle.std.specs.Prelude.{replicate, get_or, slice_index, Result, Ok}
use Rattle.std.specs.Str.{bytes_eq}
use Rattle.std.proofs.Math.Nat.{zero-mul}
use Rattle.std.proofs.lemmas.Bool.{eq-eqb, le-leb, cases_lt}
use Rattle.std.proofs.lemmas.List.{take-append-drop, length-replicate, get_or-replicate, get_or_past, get_or-drop}
use Rattle.byteorder.specs.Endian.{big_bytes, big_from}
use Rattle.byteorder.specs.Numbers.{big_number-reads_back}
use Rattle.ds_base.specs.declared.names.PageId.{PageId}
use Rattle.page_format.specs.Fields.{number_in, lrsn_of}
use Rattle.page_format.specs.Header.{mark, kind_of, is_version, may_have, most, header_in, fields, first_fault, is_zeros, empty_header, judged, header_of}
use Rattle.page_format.specs.declared.header.Header.{Header}
use Rattle.page_format.specs.declared.header.NotAPage.{NotAPage}
use Rattle.heap_space.specs.Changes.{front}
use Rattle.index_leaf.specs.Changes.{spelt, front_of, id_of}
use Rattle.index_leaf.specs.Changes.{zeros as zero_bytes}
use Rattle.page_images.specs.Images.{HasFront, IsStamped, zeros}

pub fronts_agree : (kind : ℕ) (id : PageId) → front kind id ≡ front_of kind id
unfolding front_of spelt
fronts_agree kind id = refl

-- the page is its front and the rest
page_is : (page : List ℕ) (id : PageId) (kind : ℕ) → HasFront page id kind → page ≡ front_of kind id ++ drop 12 page
page_is page id kind h = sym (take-append-drop 12 page) ∙ ap (λ (l : List ℕ). l ++ drop 12 page) h.begins

kind_in : (kind : ℕ) (id : PageId) (rest : List ℕ) → slice_index (front_of kind id ++ rest) 4 ≡ kind
unfolding front_of spelt
kind_in kind id rest = refl

pub kind_read : (page : List ℕ) (id : PageId) (kind : ℕ) → HasFront page id kind → slice_index page 4 ≡ kind
kind_read page id kind h = ap (λ (l : List ℕ). slice_index l 4) (page_is page id kind h) ∙ kind_in kind id (drop 12 page)

version_in : (kind : ℕ) (id : PageId) (rest : List ℕ) → slice_index (front_of kind id ++ rest) 5 ≡ 2
unfolding front_of spelt
version_in kind id rest = refl

mark_in : (kind : ℕ) (id : PageId) (rest : List ℕ) → bytes_eq (take 4 (front_of kind id ++ rest)) mark ≡ true
unfolding front_of spelt
mark_in kind id rest = refl

not_zeros_in : (kind : ℕ) (id : PageId) (rest : List ℕ) → is_zeros (front_of kind id ++ rest) ≡ false
unfolding front_of spelt
not_zeros_in kind id rest = refl

pub not_zeros : (page : List ℕ) (id : PageId) (kind : ℕ) → HasFront page id kind → is_zeros page ≡ false
not_zeros page id kind h = ap is_zeros (page_is page id kind h) ∙ not_zeros_in kind id (drop 12 page)

set_in : (kind : ℕ) (id : PageId) (rest : List ℕ) → id.set < 2 ^ 16 → number_in (front_of kind id ++ rest) 6 2 ≡ id.set
unfolding front_of spelt
set_in kind id rest lt = big_number-reads_back 2 id.set (big_bytes 4 id.number ++ rest) lt

number_in_front : (kind : ℕ) (id : PageId) (rest : List ℕ) → id.number < 2 ^ 32 → number_in (front_of kind id ++ rest) 8 4 ≡ id.number
unfolding front_of spelt
number_in_front kind id rest lt = big_number-reads_back 4 id.number rest lt

pub set_read : (page : List ℕ) (id : PageId) (kind : ℕ) → HasFront page id kind → id.set < 2 ^ 16 → number_in page 6 2 ≡ id.set
set_read page id kind h lt = ap (λ (l : List ℕ). number_in l 6 2) (page_is page id kind h) ∙ set_in kind id (drop 12 page) lt

pub number_read : (page : List ℕ) (id : PageId) (kind : ℕ) → HasFront page id kind → id.number < 2 ^ 32 → number_in page 8 4 ≡ id.number
number_read page id kind h lt = ap (λ (l : List ℕ). number_in l 8 4) (page_is page id kind h) ∙ number_in_front kind id (drop 12 page) lt

pub name_read : (page : List ℕ) (id : PageId) (kind : ℕ) → HasFront page id kind → id.set < 2 ^ 16 → id.number < 2 ^ 32 → id_of page ≡ id
unfolding id_of
name_read page id kind h set number =
    let make : ℕ → ℕ → PageId = λ s n. record { set = s; number = n } in
    ap (λ (s : ℕ). make s (number_in page 8 4)) (set_read page id kind h set)
    ∙ ap (λ (n : ℕ). make id.set n) (number_read page id kind h number)

-- ---- the header

no_fault : (a b c d e f g : ℕ) (p q r s t u v : Bool) → p ≡ true → q ≡ true → r ≡ true → s ≡ true → t ≡ true → u ≡ true → v ≡ true
    → first_fault ((a, p) ∷ (b, q) ∷ (c, r) ∷ (d, s) ∷ (e, t) ∷ (f, u) ∷ (g, v) ∷ []) ≡ None
no_fault a b c d e f g p q r s t u v hp hq hr hs ht hu hv = rw (hp, hq, hr, hs, ht, hu, hv) refl

not_not : (b : Bool) → b ≡ false → not b ≡ true
not_not b h = ap not h

fields_right : (page : List ℕ) (id : PageId) (kind : ℕ) → HasFront page id kind → IsStamped page → number_in page 26 2 ≤ most (kind_of kind) → may_have id (kind_of kind) ≡ true → id.set < 2 ^ 16 → id.number < 2 ^ 32
    → first_fault (fields page id) ≡ None
fields_right page id kind h stamped count may set number =
    let is = page_is page id kind h in
    let k = kind_read page id kind h in
    no_fault _ _ _ _ _ _ _ _ _ _ _ _ _ _
    (ap (λ (l : List ℕ). bytes_eq (take 4 l) mark) is ∙ mark_in kind id (drop 12 page))
    (ap (λ (n : ℕ). may_have id (kind_of n)) k ∙ may)
    (ap (λ (l : List ℕ). is_version (slice_index l 5)) is ∙ ap is_version (version_in kind id (drop 12 page)))
    (eq-eqb (number_in page 6 2) id.set (set_read page id kind h set))
    (eq-eqb (number_in page 8 4) id.number (number_read page id kind h number))
    (not_not (lrsn_of page == 0) stamped)
    (ap (λ (n : ℕ). nat_le (number_in page 26 2) (most (kind_of n))) k ∙ le-leb (number_in page 26 2) (most (kind_of kind)) count)

pub header_read : (page : List ℕ) (id : PageId) (kind : ℕ) → HasFront page id kind → IsStamped page → number_in page 26 2 ≤ most (kind_of kind) → may_have id (kind_of kind) ≡ true → id.set < 2 ^ 16 → id.number < 2 ^ 32
    → header_of page id ≡ Ok (record { kind = kind_of kind; lrsn = lrsn_of page; count = number_in page 26 2 })
unfolding header_of
header_read page id kind h stamped count may set number =
    let answer : Option ℕ → Result Header NotAPage = λ fault. judged fault (header_in page) in
    let with_kind : ℕ → Result Header NotAPage = λ n. Ok (record { kind = kind_of n; lrsn = lrsn_of page; count = number_in page 26 2 }) in
    ap (λ (b : Bool). if b then Ok empty_header else answer (first_fault (fields page id))) (not_zeros page id kind h)
    ∙ ap answer (fields_right page id kind h stamped count may set number)
    ∙ ap with_kind (kind_read page id kind h)

-- ---- the empty page

zeros_are : (n : ℕ) → is_zeros (zero_bytes n) ≡ true
unfolding zero_bytes
zeros_are zero = refl
zeros_are (suc n) = zeros_are n

pub empty_read : (id : PageId) → header_of zeros id ≡ Ok empty_header
unfolding header_of
empty_read id =
    let answer : Result Header NotAPage = judged (first_fault (fields zeros id)) (header_in zeros) in
    ap (λ (b : Bool). if b then Ok empty_header else answer) (zeros_are 4096)

pub zeros_are_zeros : is_zeros zeros ≡ true
zeros_are_zeros = zeros_are 4096

pub zeros_whole : length zeros ≡ 4096
unfolding zero_bytes
zeros_whole = length-replicate {A = ℕ} 4096 0

zero_byte : (n k : ℕ) → slice_index (zero_bytes n) k ≡ 0
unfolding zero_bytes
zero_byte n k =
    let none : ℕ = 0 in
    let xs : List ℕ = replicate n none in
    let l : length xs ≡ n = length-replicate n none in
    elim (cases_lt k n) as (λ _. get_or xs k none ≡ none) [
      | inl lt ↦ get_or-replicate n k none none lt
      | inr le ↦ get_or_past xs k none (omega (arith, l))
    ]

pub zeros_byte : (k : ℕ) → slice_index zeros k ≡ 0
zeros_byte k = zero_byte 4096 k

zero_from : (n i : ℕ) (xs : List ℕ) → ((k : ℕ) → slice_index xs k ≡ 0) → big_from i n xs ≡ 0
zero_from zero i xs h = refl
zero_from (suc n) i xs h =
    let rest = zero_from n (suc i) xs h in
    let none = zero-mul (256 ^ n) in
    ap (λ (b : ℕ). b * 256 ^ n + big_from (suc i) n xs) (h i) ∙ omega (arith, rest, none)

pub zeros_number : (at width : ℕ) → number_in zeros at width ≡ 0
zeros_number at width = zero_from width 0 (drop at zeros) (λ k. get_or-drop at zeros k 0 ∙ zeros_byte (at + k))
