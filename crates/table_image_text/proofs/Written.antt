-- An image that is written is read as it was meant.
use Rattle.std.proofs.Common.{◌≡◌, ℕ, zero, suc, ◌+◌, ◌-◌, ◌*◌, ◌^◌, ◌<◌, ◌≤◌, Bool, true, false, cond, List, [], ◌∷◌, ◌++◌, take, drop, length, Option, Some, None, refl, sym, ap, ◌∙◌, arith, append_assoc, add-one, length-append}
use Rattle.std.proofs.lemmas.List.{take_at, drop_at, drop-drop}
use Rattle.std.proofs.lemmas.Bool.Decides.{nat_tests}
use Rattle.std.specs.Prelude.{◌==◌, nat_lt, nat_le, slice_index}
use Rattle.std.specs.Str.{bytes_eq}
use Rattle.byteorder.specs.Endian.{big_bytes, big_number}
use Rattle.byteorder.specs.Numbers.{big_number-reads_back}
use Rattle.ds_base.specs.Ids.{lrsn_width, IsLrsn}
use Rattle.ds_base.specs.declared.names.PageId.{PageId}
use Rattle.page_format.specs.Fields.{page_size, number_in, lrsn_of}
use Rattle.page_format.specs.Fields.{lrsn_at as page_lrsn_at}
use Rattle.table_image_text.specs.Pages.{earlier, page_fault, fault_up_to}
use Rattle.table_image_text.specs.Image.{mark, version, version_at, table_at, lrsn_at, heap_at, index_at, head_bytes, page_name, pages_bytes, image_with, heap_in, index_in, place_of, page_in}
use Rattle.table_image_text.specs.Faults.{or_else, field_fault, mark_fault, version_fault, table_fault, name_fault, lrsn_fault, counts_fault, behind, fault_in_page, fault_in_pages, end_fault, pages_fault, image_fault}
use Rattle.table_image_text.specs.Laws.{WrittenIsRead}

-- ---- tests of numbers

eq_self : (m : ℕ) → (m == m) ≡ true
eq_self m = grind (arith, nat_tests)

not_less : (m n : ℕ) → n ≤ m → nat_lt m n ≡ false
not_less m n h = grind (arith, nat_tests)

no_more : (m n : ℕ) → m ≤ n → nat_le m n ≡ true
no_more m n h = grind (arith, nat_tests)

-- ---- the head

after_name : (table lrsn heap index : ℕ) (rest : List ℕ) → drop 6 (head_bytes table lrsn heap index ++ rest) ≡ big_bytes lrsn_width lrsn ++ (big_bytes 4 heap ++ (big_bytes 4 index ++ rest))
unfolding head_bytes
after_name table lrsn heap index rest = refl

after_lrsn : (table lrsn heap index : ℕ) (rest : List ℕ) → drop 16 (head_bytes table lrsn heap index ++ rest) ≡ big_bytes 4 heap ++ (big_bytes 4 index ++ rest)
unfolding head_bytes
after_lrsn table lrsn heap index rest = refl

after_heap : (table lrsn heap index : ℕ) (rest : List ℕ) → drop 20 (head_bytes table lrsn heap index ++ rest) ≡ big_bytes 4 index ++ rest
unfolding head_bytes
after_heap table lrsn heap index rest = refl

after_head : (table lrsn heap index : ℕ) (rest : List ℕ) → drop 24 (head_bytes table lrsn heap index ++ rest) ≡ rest
unfolding head_bytes
after_head table lrsn heap index rest = refl

head_length : (table lrsn heap index : ℕ) → length (head_bytes table lrsn heap index) ≡ 24
unfolding head_bytes
head_length table lrsn heap index = refl

has_mark : (table lrsn heap index : ℕ) (rest : List ℕ) → bytes_eq (take 4 (head_bytes table lrsn heap index ++ rest)) mark ≡ true
unfolding head_bytes
has_mark table lrsn heap index rest = refl

has_version : (table lrsn heap index : ℕ) (rest : List ℕ) → (slice_index (head_bytes table lrsn heap index ++ rest) 4 == version) ≡ true
unfolding head_bytes
has_version table lrsn heap index rest = refl

has_table : (table lrsn heap index : ℕ) (rest : List ℕ) → slice_index (head_bytes table lrsn heap index ++ rest) 5 ≡ table
unfolding head_bytes
has_table table lrsn heap index rest = refl

number_after : (bytes : List ℕ) (at width number : ℕ) (rest : List ℕ) → number < 256 ^ width → drop at bytes ≡ big_bytes width number ++ rest → number_in bytes at width ≡ number
number_after bytes at width number rest less h = ap (λ (l : List ℕ). big_number width l) h ∙ big_number-reads_back width number rest less

-- ---- fields

field_right : (bytes : List ℕ) (at width : ℕ) (right : Bool) → at + width ≤ length bytes → right ≡ true → field_fault bytes at width right ≡ None
field_right bytes at width right le h =
    ap (λ (b : Bool). cond b (Some (length bytes)) (cond right None (Some at))) (not_less (length bytes) (at + width) le) ∙ ap (λ (b : Bool). cond b None (Some at)) h

none_of_both : (a b : Option ℕ) → a ≡ None → b ≡ None → or_else a b ≡ None
none_of_both None b h k = k
none_of_both (Some x) b h k = absurd cc

-- ---- the pages

pages_more : (at : PageId → List ℕ) (table heap n : ℕ) → pages_bytes at table heap (n + 1) ≡ pages_bytes at table heap n ++ at (page_name table heap n)
unfolding pages_bytes
pages_more at table heap n = ap (λ (m : ℕ). pages_bytes at table heap m) (add-one n)

no_pages : (at : PageId → List ℕ) (table heap : ℕ) → pages_bytes at table heap 0 ≡ []
unfolding pages_bytes
no_pages at table heap = refl

pages_length : (at : PageId → List ℕ) (table heap n : ℕ) → ((id : PageId) → length (at id) ≡ page_size) → length (pages_bytes at table heap n) ≡ page_size * n
pages_length at table heap zero whole = ap length (no_pages at table heap)
pages_length at table heap (suc n) whole =
    let e : suc n ≡ n + 1 = omega arith in
    let before = pages_length at table heap n whole in
    let one = whole (page_name table heap n) in
    let both = length-append (pages_bytes at table heap n) (at (page_name table heap n)) in
    let all : length (pages_bytes at table heap n ++ at (page_name table heap n)) ≡ page_size * suc n = omega (arith, before, one, both) in
    ap (λ (m : ℕ). length (pages_bytes at table heap m)) e ∙ ap length (pages_more at table heap n) ∙ all

append_none : (xs : List ℕ) → xs ≡ xs ++ []
append_none [] = refl
append_none (x ∷ xs) = ap (λ (ys : List ℕ). x ∷ ys) (append_none xs)

pages_behind : (at : PageId → List ℕ) (table heap n more : ℕ) → (rest : List ℕ) × (pages_bytes at table heap (n + more) ≡ pages_bytes at table heap n ++ rest)
pages_behind at table heap n zero =
    let e : n + zero ≡ n = omega arith in
    ([], ap (λ (m : ℕ). pages_bytes at table heap m) e ∙ append_none (pages_bytes at table heap n))
pages_behind at table heap n (suc more) =
    let h = pages_behind at table heap n more in
    let e : n + suc more ≡ n + more + 1 = omega arith in (
      h.0 ++ at (page_name table heap (n + more)),
      ap (λ (m : ℕ). pages_bytes at table heap m) e ∙ pages_more at table heap (n + more) ∙ ap (λ (l : List ℕ). l ++ at (page_name table heap (n + more))) h.1
          ∙ append_assoc (pages_bytes at table heap n) h.0 (at (page_name table heap (n + more))),
    )

-- the page at a place of all
one_page : (at : PageId → List ℕ) (table heap n count : ℕ) → ((id : PageId) → length (at id) ≡ page_size) → n < count
    → take page_size (drop (page_size * n) (pages_bytes at table heap count)) ≡ at (page_name table heap n)
one_page at table heap n count whole less =
    let back = pages_behind at table heap (n + 1) (count - (n + 1)) in
    let e : n + 1 + (count - (n + 1)) ≡ count = omega arith in
    let all : pages_bytes at table heap count ≡ pages_bytes at table heap n ++ (at (page_name table heap n) ++ back.0) =
    sym (ap (λ (m : ℕ). pages_bytes at table heap m) e) ∙ back.1 ∙ ap (λ (l : List ℕ). l ++ back.0) (pages_more at table heap n)
    ∙ append_assoc (pages_bytes at table heap n) (at (page_name table heap n)) back.0
    in
    ap (λ (l : List ℕ). take page_size (drop (page_size * n) l)) all
    ∙ ap (λ (l : List ℕ). take page_size l) (drop_at (pages_bytes at table heap n) (at (page_name table heap n) ++ back.0) (page_size * n) (pages_length at table heap n whole))
    ∙ take_at (at (page_name table heap n)) back.0 page_size (whole (page_name table heap n))

page_behind_head : (at : PageId → List ℕ) (table lrsn heap index n : ℕ) → ((id : PageId) → length (at id) ≡ page_size) → n < heap + index
    → page_in (image_with at table lrsn heap index) n ≡ at (page_name table heap n)
page_behind_head at table lrsn heap index n whole less =
    ap (λ (l : List ℕ). take page_size l) (sym (drop-drop (page_size * n) 24 (image_with at table lrsn heap index)))
    ∙ ap (λ (l : List ℕ). take page_size (drop (page_size * n) l)) (after_head table lrsn heap index (pages_bytes at table heap (heap + index)))
    ∙ one_page at table heap n (heap + index) whole less

image_length : (at : PageId → List ℕ) (table lrsn heap index : ℕ) → ((id : PageId) → length (at id) ≡ page_size) → length (image_with at table lrsn heap index) ≡ place_of (heap + index)
image_length at table lrsn heap index whole =
    length-append (head_bytes table lrsn heap index) (pages_bytes at table heap (heap + index))
    ∙ ap (λ (m : ℕ). m + length (pages_bytes at table heap (heap + index))) (head_length table lrsn heap index)
    ∙ ap (λ (m : ℕ). 24 + m) (pages_length at table heap (heap + index) whole)

right_up_to : (greatest : ℕ) (id : PageId) (page : List ℕ) → page_fault id page ≡ None → lrsn_of page ≤ greatest → fault_up_to greatest id page ≡ None
right_up_to greatest id page h le =
    ap (λ (b : Bool). cond b (earlier page_lrsn_at (page_fault id page)) (page_fault id page)) (not_less greatest (lrsn_of page) le) ∙ h

page_right : (bytes : List ℕ) (table greatest heap n : ℕ) → place_of n + page_size ≤ length bytes → fault_up_to greatest (page_name table heap n) (page_in bytes n) ≡ None → fault_in_page bytes table greatest heap n ≡ None
page_right bytes table greatest heap n le h =
    ap (λ (b : Bool). cond b (Some (length bytes)) (behind (place_of n) (fault_up_to greatest (page_name table heap n) (page_in bytes n)))) (not_less (length bytes) (place_of n + page_size) le)
    ∙ ap (λ (o : Option ℕ). behind (place_of n) o) h

pages_right : (bytes : List ℕ) (table greatest heap n more : ℕ) → ((m : ℕ) → n ≤ m → m < n + more → fault_in_page bytes table greatest heap m ≡ None) → fault_in_pages bytes table greatest heap n more ≡ None
pages_right bytes table greatest heap n zero h = refl
pages_right bytes table greatest heap n (suc more) h =
    none_of_both (fault_in_page bytes table greatest heap n) (fault_in_pages bytes table greatest heap (suc n) more) (h n (omega arith) (omega arith))
    (pages_right bytes table greatest heap (suc n) more (λ m le less. h m (omega (arith, le)) (omega (arith, less))))

end_right : (bytes : List ℕ) (count : ℕ) → length bytes ≡ place_of count → end_fault bytes count ≡ None
end_right bytes count h = ap (λ (b : Bool). cond b (Some (place_of count)) None) (not_less (place_of count) (length bytes) (omega (arith, h)))

-- ---- the whole

-- the parts of an image that has no fault
allowed_by : (bytes : List ℕ) (table greatest heap index : ℕ) → heap_in bytes ≡ heap → index_in bytes ≡ index → length bytes ≡ place_of (heap + index)
    → bytes_eq (take 4 bytes) mark ≡ true → (slice_index bytes version_at == version) ≡ true → slice_index bytes table_at ≡ table → number_in bytes lrsn_at lrsn_width ≤ greatest
    → ((n : ℕ) → n < heap + index → fault_up_to greatest (page_name table heap n) (page_in bytes n) ≡ None)
    → image_fault bytes table greatest ≡ None
unfolding image_fault
allowed_by bytes table greatest heap index heap_is index_is long marked versioned named known pages =
    let of_table : (slice_index bytes table_at == table) ≡ true = ap (λ (t : ℕ). t == table) named ∙ eq_self table in
    let names : name_fault bytes table ≡ None =
    none_of_both (mark_fault bytes) (or_else (version_fault bytes) (table_fault bytes table)) (field_right bytes 0 4 (bytes_eq (take 4 bytes) mark) (omega (arith, long)) marked)
    (none_of_both (version_fault bytes) (table_fault bytes table) (field_right bytes version_at 1 (slice_index bytes version_at == version) (omega (arith, long)) versioned)
    (field_right bytes table_at 1 (slice_index bytes table_at == table) (omega (arith, long)) of_table))
    in
    let number : lrsn_fault bytes greatest ≡ None =
    field_right bytes lrsn_at lrsn_width (nat_le (number_in bytes lrsn_at lrsn_width) greatest) (omega (arith, long)) (no_more (number_in bytes lrsn_at lrsn_width) greatest known)
    in
    let counts : counts_fault bytes ≡ None =
    none_of_both (field_fault bytes heap_at 4 true) (field_fault bytes index_at 4 true) (field_right bytes heap_at 4 true (omega (arith, long)) refl) (field_right bytes index_at 4 true (omega (arith, long)) refl)
    in
    let each : fault_in_pages bytes table greatest heap 0 (heap + index) ≡ None =
    pages_right bytes table greatest heap 0 (heap + index) (λ m le less. page_right bytes table greatest heap m (omega (arith, long, less)) (pages m (omega (arith, less))))
    in
    let behind_all : pages_fault bytes table greatest ≡ None =
    ap (λ (m : ℕ). or_else (fault_in_pages bytes table greatest m 0 (m + index_in bytes)) (end_fault bytes (m + index_in bytes))) heap_is
    ∙ ap (λ (m : ℕ). or_else (fault_in_pages bytes table greatest heap 0 (heap + m)) (end_fault bytes (heap + m))) index_is
    ∙ none_of_both (fault_in_pages bytes table greatest heap 0 (heap + index)) (end_fault bytes (heap + index)) each (end_right bytes (heap + index) long)
    in
    none_of_both (name_fault bytes table) (or_else (lrsn_fault bytes greatest) (or_else (counts_fault bytes) (pages_fault bytes table greatest))) names
    (none_of_both (lrsn_fault bytes greatest) (or_else (counts_fault bytes) (pages_fault bytes table greatest)) number (none_of_both (counts_fault bytes) (pages_fault bytes table greatest) counts behind_all))

heap_read : (at : PageId → List ℕ) (table lrsn heap index : ℕ) → heap < 2 ^ 32 → heap_in (image_with at table lrsn heap index) ≡ heap
heap_read at table lrsn heap index less =
    number_after (image_with at table lrsn heap index) 16 4 heap (big_bytes 4 index ++ pages_bytes at table heap (heap + index)) less (after_lrsn table lrsn heap index (pages_bytes at table heap (heap + index)))

index_read : (at : PageId → List ℕ) (table lrsn heap index : ℕ) → index < 2 ^ 32 → index_in (image_with at table lrsn heap index) ≡ index
index_read at table lrsn heap index less =
    number_after (image_with at table lrsn heap index) 20 4 index (pages_bytes at table heap (heap + index)) less (after_heap table lrsn heap index (pages_bytes at table heap (heap + index)))

lrsn_read : (at : PageId → List ℕ) (table lrsn heap index : ℕ) → IsLrsn lrsn → number_in (image_with at table lrsn heap index) lrsn_at lrsn_width ≡ lrsn
lrsn_read at table lrsn heap index less =
    number_after (image_with at table lrsn heap index) 6 10 lrsn (big_bytes 4 heap ++ (big_bytes 4 index ++ pages_bytes at table heap (heap + index))) less
    (after_name table lrsn heap index (pages_bytes at table heap (heap + index)))

pub written_is_read : WrittenIsRead
written_is_read at table lrsn heap index greatest in_range known heap_in_range index_in_range whole right numbers =
    let bytes = image_with at table lrsn heap index in
    let rest = pages_bytes at table heap (heap + index) in
    let number = lrsn_read at table lrsn heap index in_range in
    record {
      allowed =
          allowed_by (image_with at table lrsn heap index) table greatest heap index (heap_read at table lrsn heap index heap_in_range) (index_read at table lrsn heap index index_in_range)
          (image_length at table lrsn heap index whole) (has_mark table lrsn heap index rest) (has_version table lrsn heap index rest) (has_table table lrsn heap index rest)
          (omega (arith, number, known))
          (λ n less.
          ap (λ (p : List ℕ). fault_up_to greatest (page_name table heap n) p) (page_behind_head at table lrsn heap index n whole less)
          ∙ right_up_to greatest (page_name table heap n) (at (page_name table heap n)) (right n less) (numbers n less));
      heap_is = heap_read at table lrsn heap index heap_in_range;
      index_is = index_read at table lrsn heap index index_in_range;
      pages_are = λ n less. page_behind_head at table lrsn heap index n whole less;
    }
