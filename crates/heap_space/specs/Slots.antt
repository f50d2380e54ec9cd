-- What the 128 bytes of a slot say, and where they can't be a slot's.
use Rattle.std.specs.Prelude.{ℕ, ◌+◌, ◌-◌, ◌==◌, nat_le, Bool, ◌&&◌, if◌then◌else◌, List, [], ◌∷◌, ◌++◌, length, take, drop, replicate, slice_index, Option, Some, None}
use Rattle.std.specs.List.{list_all}
use Rattle.byteorder.specs.Endian.{big_bytes}
use Rattle.page_format.specs.Fields.{number_in}
use Rattle.page_format.specs.Header.{first_fault, is_zeros}
use Rattle.heap_space.specs.Layout.{slot_size, slot_at, state_at, length_at, key_at, value_at, never, absent, present}
use Rattle.heap_space.specs.declared.slot.Slot.{Slot}
use Rattle.heap_space.specs.declared.slot.Slot.TheVariants as slot

-- a slot that was never given, or its key and the value of its row, if there is one
abbrev pub Content : Type 0
Content = Option (ℕ × Option (List ℕ))

-- ---- writing

-- the first 16 bytes of a slot
abbrev pub head : ℕ → ℕ → ℕ → List ℕ
head state count key = state ∷ count ∷ replicate 6 0 ++ big_bytes 8 key

-- a value in the other 112 bytes: its own, and then zeros
abbrev pub padded : List ℕ → List ℕ
padded value = value ++ replicate (112 - length value) 0

-- the slot of a row with this value, or of none
abbrev pub image : ℕ → Option (List ℕ) → List ℕ
image key None = head absent 0 key ++ padded []
image key (Some value) = head present (length value) key ++ padded value

-- ---- reading

-- the bytes of a slot of a page
abbrev pub slot_in : List ℕ → ℕ → List ℕ
slot_in page n = take slot_size (drop (slot_at n) page)

abbrev pub value_in : List ℕ → List ℕ
value_in bytes = take (slice_index bytes length_at) (drop value_at bytes)

abbrev pub content : List ℕ → Content
content bytes =
    if slice_index bytes state_at == never then None
    else if slice_index bytes state_at == absent then Some (number_in bytes key_at 8, None)
    else Some (number_in bytes key_at 8, Some (value_in bytes))

-- what an answer says
abbrev pub said : Slot → Content
said slot.Never = None
said (slot.Absent key) = Some (key, None)
said (slot.Present key value) = Some (key, Some value.now)

-- ---- faults

abbrev pub is_value_byte : ℕ → Bool
is_value_byte b = nat_le 0x21 b && nat_le b 0x7e

-- a value has at most 100 bytes, and there is none but in a row that is present
abbrev pub may_be_length : ℕ → ℕ → Bool
may_be_length state n = if state == present then nat_le n 100 else n == 0

-- where each field begins in the page, in rising order, and whether the slot that begins at `at` may have it
abbrev pub fields : ℕ → List ℕ → List (ℕ × Bool)
fields at bytes =
    (at + state_at, nat_le (slice_index bytes state_at) present)
    ∷ (at + length_at, may_be_length (slice_index bytes state_at) (slice_index bytes length_at))
    ∷ (at + 2, is_zeros (take 6 (drop 2 bytes)))
    ∷ (at + value_at, list_all is_value_byte (value_in bytes))
    ∷ (at + value_at + slice_index bytes length_at, is_zeros (drop (value_at + slice_index bytes length_at) bytes))
    ∷ []

-- the offset in the page of the first field that the slot can't have
unfoldable pub fault_in : List ℕ → ℕ → Option ℕ
fault_in page n = first_fault (fields (slot_at n) (slot_in page n))
