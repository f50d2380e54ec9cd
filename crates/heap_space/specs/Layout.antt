-- Where the fields of a heap's pages stand.
use Rattle.std.specs.Prelude.{ℕ, ◌+◌, ◌*◌}

-- ---- the header page of a heap

-- the number of the last heap page, 4 bytes
abbrev pub last_page_at : ℕ
last_page_at = 32

-- how many of its slots are given, 2 bytes
abbrev pub given_at : ℕ
given_at = 36

-- ---- a page of rows

abbrev pub slot_size : ℕ
slot_size = 128

-- where a slot begins
abbrev pub slot_at : ℕ → ℕ
slot_at slot = 32 + slot_size * slot

-- ---- a slot

abbrev pub state_at : ℕ
state_at = 0

abbrev pub length_at : ℕ
length_at = 1

abbrev pub key_at : ℕ
key_at = 8

abbrev pub value_at : ℕ
value_at = 16

-- ---- the states of a slot

abbrev pub never : ℕ
never = 0

abbrev pub absent : ℕ
absent = 1

abbrev pub present : ℕ
present = 2
