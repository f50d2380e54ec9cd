-- An image without a fault is as long as its head and its pages.
use Rattle.std.proofs.Common.{◌≡◌, ℕ, zero, suc, ◌+◌, ◌≤◌, Bool, true, false, cond, List, length, Option, Some, None, refl, sym, ap, ◌∙◌, arith}
use Rattle.std.specs.Prelude.{nat_lt}
use Rattle.std.proofs.lemmas.Bool.Decides.{nat_tests}
use Rattle.page_format.specs.Fields.{page_size}
use Rattle.table_image_text.specs.Pages.{fault_up_to}
use Rattle.table_image_text.specs.Image.{head_size, heap_at, index_at, heap_in, index_in, page_name, place_of, page_in}
use Rattle.table_image_text.specs.Faults.{or_else, field_fault, name_fault, lrsn_fault, counts_fault, behind, fault_in_page, fault_in_pages, end_fault, pages_fault, image_fault}
use Rattle.copy_recover.specs.Writing.{IsImage}

pub first_none : (a b : Option ℕ) → or_else a b ≡ None → a ≡ None
first_none None b h = refl
first_none (Some x) b h = absurd cc

pub second_none : (a b : Option ℕ) → or_else a b ≡ None → b ≡ None
second_none None b h = h
second_none (Some x) b h = absurd cc

pub not_some : (b : Bool) (x : ℕ) (o : Option ℕ) → cond b (Some x) o ≡ None → b ≡ false
not_some true x o h = absurd cc
not_some false x o h = refl

at_least : (m n : ℕ) → nat_lt m n ≡ false → n ≤ m
at_least m n h = grind (arith, nat_tests)

field_in : (bytes : List ℕ) (at width : ℕ) → field_fault bytes at width true ≡ None → at + width ≤ length bytes
field_in bytes at width h = at_least (length bytes) (at + width) (not_some (nat_lt (length bytes) (at + width)) (length bytes) None h)

page_whole : (bytes : List ℕ) (table greatest heap n : ℕ) → fault_in_page bytes table greatest heap n ≡ None → place_of n + page_size ≤ length bytes
page_whole bytes table greatest heap n h =
    at_least (length bytes) (place_of n + page_size) (not_some (nat_lt (length bytes) (place_of n + page_size)) (length bytes) (behind (place_of n) (fault_up_to greatest (page_name table heap n) (page_in bytes n))) h)

pub last_none : (bytes : List ℕ) (table greatest heap n more : ℕ) → fault_in_pages bytes table greatest heap n (suc more) ≡ None → fault_in_page bytes table greatest heap (n + more) ≡ None
last_none bytes table greatest heap n zero h =
    let e : n + zero ≡ n = omega arith in
    ap (λ (m : ℕ). fault_in_page bytes table greatest heap m) e ∙ first_none (fault_in_page bytes table greatest heap n) (fault_in_pages bytes table greatest heap (suc n) zero) h
last_none bytes table greatest heap n (suc more) h =
    let e : n + suc more ≡ suc n + more = omega arith in
    ap (λ (m : ℕ). fault_in_page bytes table greatest heap m) e
    ∙ last_none bytes table greatest heap (suc n) more (second_none (fault_in_page bytes table greatest heap n) (fault_in_pages bytes table greatest heap (suc n) (suc more)) h)

-- the pages of an image with this many
ends_behind : (bytes : List ℕ) (table greatest heap count : ℕ) → head_size ≤ length bytes → fault_in_pages bytes table greatest heap 0 count ≡ None → place_of count ≤ length bytes
ends_behind bytes table greatest heap zero headed h = omega (arith, headed)
ends_behind bytes table greatest heap (suc more) headed h =
    let e : 0 + more ≡ more = omega arith in
    let whole = page_whole bytes table greatest heap more (sym (ap (λ (m : ℕ). fault_in_page bytes table greatest heap m) e) ∙ last_none bytes table greatest heap 0 more h) in
    omega (arith, whole)

ends_at : (bytes : List ℕ) (count : ℕ) → end_fault bytes count ≡ None → length bytes ≤ place_of count
ends_at bytes count h = at_least (place_of count) (length bytes) (not_some (nat_lt (place_of count) (length bytes)) (place_of count) None h)

of_parts : (bytes : List ℕ) (table greatest : ℕ) → counts_fault bytes ≡ None → pages_fault bytes table greatest ≡ None → IsImage bytes
of_parts bytes table greatest counts pages =
    let headed = field_in bytes index_at 4 (second_none (field_fault bytes heap_at 4 true) (field_fault bytes index_at 4 true) counts) in
    let count = heap_in bytes + index_in bytes in
    let all = ends_behind bytes table greatest (heap_in bytes) (heap_in bytes + index_in bytes) headed
    (first_none (fault_in_pages bytes table greatest (heap_in bytes) 0 (heap_in bytes + index_in bytes)) (end_fault bytes (heap_in bytes + index_in bytes)) pages) in
    let none = ends_at bytes (heap_in bytes + index_in bytes)
    (second_none (fault_in_pages bytes table greatest (heap_in bytes) 0 (heap_in bytes + index_in bytes)) (end_fault bytes (heap_in bytes + index_in bytes)) pages) in
    record { headed = headed; whole = omega (arith, all, none) }

pub is_image : (bytes : List ℕ) (table greatest : ℕ) → image_fault bytes table greatest ≡ None → IsImage bytes
unfolding image_fault
is_image bytes table greatest h =
    let one = second_none (name_fault bytes table) (or_else (lrsn_fault bytes greatest) (or_else (counts_fault bytes) (pages_fault bytes table greatest))) h in
    let two = second_none (lrsn_fault bytes greatest) (or_else (counts_fault bytes) (pages_fault bytes table greatest)) one in
    of_parts bytes table greatest (first_none (counts_fault bytes) (pages_fault bytes table greatest) two) (second_none (counts_fault bytes) (pages_fault bytes table greatest) two)
