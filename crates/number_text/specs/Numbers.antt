-- The numbers that decimal digits spell.
use Rattle.std.specs.Prelude.{ℕ, ◌+◌, ◌-◌, ◌*◌, ◌^◌, Bool, ◌&&◌, if◌then◌else◌, nat_lt, nat_le, List, [], ◌∷◌, length, Option, Some, None}
use Rattle.std.specs.Str.{all_ascii_digits}

-- the number that decimal digits spell behind those of n
abbrev pub spelled_after : ℕ → List ℕ → ℕ
spelled_after n [] = n
spelled_after n (digit ∷ digits) = spelled_after (n * 10 + (digit - 48)) digits

abbrev pub spelled : List ℕ → ℕ
spelled digits = spelled_after 0 digits

-- 1 to 20 decimal digits that spell a number below 2^64
abbrev pub is_number : List ℕ → Bool
is_number word = nat_le 1 (length word) && (nat_le (length word) 20 && (all_ascii_digits word && nat_lt (spelled word) (2 ^ 64)))

abbrev pub number_of : List ℕ → Option ℕ
number_of word = if is_number word then Some (spelled word) else None

-- 1 to 25 decimal digits that spell a number below 2^80
abbrev pub is_wide_number : List ℕ → Bool
is_wide_number word = nat_le 1 (length word) && (nat_le (length word) 25 && (all_ascii_digits word && nat_lt (spelled word) (2 ^ 80)))

abbrev pub wide_number_of : List ℕ → Option ℕ
wide_number_of word = if is_wide_number word then Some (spelled word) else None
