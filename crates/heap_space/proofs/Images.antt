-- What is read back of the image of a slot.
use Rattle.std.proofs.Common.{◌≡◌, ◌≤◌, ◌<◌, ◌^◌, ◌+◌, ◌-◌, ℕ, zero, suc, Bool, true, nat_le, List, [], ◌∷◌, length, take, drop, replicate, Option, Some, None, IfSome, All, refl, ap, ◌∙◌, arith}
use Rattle.std.specs.Bool.{Decides}
use Rattle.std.specs.List.{list_all}
use Rattle.std.proofs.Math.Seq.{drop-append-add}
use Rattle.std.proofs.lemmas.Bool.{leb-true, le-leb}
use Rattle.std.proofs.lemmas.Bool.Decides.{Decides-and, Decides-by_and}
use Rattle.std.proofs.lemmas.List.{take_at, drop_at}
use Rattle.byteorder.specs.Numbers.{big_number-reads_back}
use Rattle.ds_base.specs.Values.{IsValue, IsValueByte}
use Rattle.page_format.specs.Header.{first_fault, is_zeros}
use Rattle.heap_space.specs.Layout.{value_at, slot_at, present}
use Rattle.heap_space.specs.Slots.{Content, head, padded, image, value_in, content, slot_in, is_value_byte, fields, fault_in}

-- the value's bytes lie behind the first 16
rest_of : (key : ℕ) (value : List ℕ) → drop value_at (image key (Some value)) ≡ padded value
rest_of key value = drop_at (head present (length value) key) (padded value) 16 refl

value_back : (key : ℕ) (value : List ℕ) → value_in (image key (Some value)) ≡ value
value_back key value =
    ap (λ (bytes : List ℕ). take (length value) bytes) (rest_of key value)
    ∙ take_at value (replicate (112 - length value) 0) (length value) refl

pub read_back : (key : ℕ) (value : Option (List ℕ)) → key < 2 ^ 64 → content (image key value) ≡ Some (key, value)
read_back key None lt =
    let row : ℕ → Content = λ k. Some (k, None) in
    ap row (big_number-reads_back 8 key (padded []) lt)
read_back key (Some value) lt =
    let of_key : ℕ → Content = λ k. Some (k, Some (value_in (image key (Some value)))) in
    let of_value : List ℕ → Content = λ v. Some (key, Some v) in
    ap of_key (big_number-reads_back 8 key (padded value) lt) ∙ ap of_value (value_back key value)

-- no fault where each test passes
no_fault : (a b c d e : ℕ) (p q r s t : Bool) → p ≡ true → q ≡ true → r ≡ true → s ≡ true → t ≡ true → first_fault ((a, p) ∷ (b, q) ∷ (c, r) ∷ (d, s) ∷ (e, t) ∷ []) ≡ None
no_fault a b c d e p q r s t hp hq hr hs ht = grind (arith, hp, hq, hr, hs, ht)

at_most : (a b : ℕ) → Decides (nat_le a b) (a ≤ b)
at_most a b = (leb-true a b, le-leb a b)

byte_decides : (b : ℕ) → Decides (is_value_byte b) (IsValueByte b)
byte_decides b = Decides-and (nat_le 0x21 b) (nat_le b 0x7e) (at_most 0x21 b) (at_most b 0x7e)

are_value_bytes : (value : List ℕ) → All IsValueByte value → list_all is_value_byte value ≡ true
are_value_bytes value h = (Decides-by_and is_value_byte IsValueByte (list_all is_value_byte) byte_decides refl (λ _ _. refl) value).1 h

zeros_are : (n : ℕ) → is_zeros (replicate n 0) ≡ true
zeros_are zero = refl
zeros_are (suc n) = zeros_are n

zeros_behind : (key : ℕ) (value : List ℕ) → is_zeros (drop (value_at + length value) (image key (Some value))) ≡ true
zeros_behind key value =
    ap is_zeros (drop-append-add (head present (length value) key) (padded value) (length value)
    ∙ drop_at value (replicate (112 - length value) 0) (length value) refl)
    ∙ zeros_are (112 - length value)

image_allowed : (at key : ℕ) (value : Option (List ℕ)) → IfSome value IsValue → first_fault (fields at (image key value)) ≡ None
image_allowed at key None h = refl
image_allowed at key (Some value) h =
    no_fault (at + 0) (at + 1) (at + 2) (at + 16) (at + 16 + length value) _ _ _ _ _ refl (le-leb (length value) 100 h.0) refl
    (ap (list_all is_value_byte) (value_back key value) ∙ are_value_bytes value h.1)
    (zeros_behind key value)

pub allowed : (page : List ℕ) (slot key : ℕ) (value : Option (List ℕ)) → IfSome value IsValue → slot_in page slot ≡ image key value → fault_in page slot ≡ None
unfolding fault_in
allowed page slot key value h there =
    ap (λ (bytes : List ℕ). first_fault (fields (slot_at slot) bytes)) there ∙ image_allowed (slot_at slot) key value h
