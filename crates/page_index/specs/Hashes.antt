-- The hash of a page. No answer turns on it.
use Rattle.std.specs.Prelude.{ℕ, ◌+◌, ◌*◌, ◌/◌, ◌%◌, ◌^◌}

-- of a page set and, above it, a number; eight numbers that follow one another differ in the upper byte alone
abbrev pub page_hash : ℕ → ℕ
page_hash page =
    (((page % 2 ^ 16 + page / 2 ^ 16 / 8 * 2 ^ 16) * 0x9e37_79b9_7f4a_7c15) % 2 ^ 64 / 2 ^ 32 + page / 2 ^ 16 % 8 * 2 ^ 29) % 2 ^ 32
