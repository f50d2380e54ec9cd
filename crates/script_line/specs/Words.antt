-- The words of a line, and what a word may be.
use Rattle.std.specs.Prelude.{ℕ, ◌==◌, Bool, true, not, ◌&&◌, ◌||◌, if◌then◌else◌, nat_lt, nat_le, List, [], ◌∷◌, length, Option, Some, None, Result, Ok, Err, filter}
use Rattle.std.specs.List.{list_all, slice_split}
use Rattle.ds_model.specs.declared.script.FaultKind.{FaultKind}
use Rattle.ds_model.specs.declared.script.FaultKind.TheVariants as fault
use Rattle.number_text.specs.Numbers.{number_of}

abbrev pub is_blank : ℕ → Bool
is_blank b = b == 32

abbrev pub is_solid : ℕ → Bool
is_solid b = not (is_blank b)

abbrev pub is_some_word : List ℕ → Bool
is_some_word word = nat_lt 0 (length word)

-- what stands between blanks
abbrev pub words_of : List ℕ → List (List ℕ)
words_of line = filter is_some_word (slice_split is_blank line)

-- no words, or a first word that begins with # (35)
abbrev pub are_skipped : List (List ℕ) → Bool
are_skipped [] = true
are_skipped ([] ∷ words) = true
are_skipped ((b ∷ bs) ∷ words) = b == 35

abbrev pub is_ascii : List ℕ → Bool
is_ascii line = list_all (λ b. nat_lt b 128) line

-- ---- what was read, or a fault

abbrev pub and_then : {A B : Type 0} → (A → Result B FaultKind) → Result A FaultKind → Result B FaultKind
and_then f (Ok a) = f a
and_then f (Err kind) = Err kind

abbrev pub mapped : {A B : Type 0} → (A → B) → Result A FaultKind → Result B FaultKind
mapped f (Ok a) = Ok (f a)
mapped f (Err kind) = Err kind

-- ---- words by what they may be, or the fault of a word that isn't one

-- 1 to 20 decimal digits that spell a number from the least to the greatest
abbrev pub is_between : ℕ → ℕ → ℕ → Bool
is_between least greatest n = nat_le least n && nat_le n greatest

abbrev pub between : FaultKind → ℕ → ℕ → Option ℕ → Result ℕ FaultKind
between kind least greatest None = Err kind
between kind least greatest (Some n) = if is_between least greatest n then Ok n else Err kind

abbrev pub number_in : ℕ → ℕ → List ℕ → Result ℕ FaultKind
number_in least greatest word = between fault.Number least greatest (number_of word)

-- one of so many members
abbrev pub member_in : ℕ → List ℕ → Result ℕ FaultKind
member_in members word = between fault.Member 1 members (number_of word)

-- a letter, a digit, - or _
abbrev pub is_name_byte : ℕ → Bool
is_name_byte b = is_between 48 57 b || is_between 65 90 b || is_between 97 122 b || (b == 45) || (b == 95)

abbrev pub is_name : List ℕ → Bool
is_name word = is_between 1 16 (length word) && list_all is_name_byte word

abbrev pub name_in : List ℕ → Result (List ℕ) FaultKind
name_in word = if is_name word then Ok word else Err fault.Name

abbrev pub is_value : List ℕ → Bool
is_value bytes = nat_le (length bytes) 100 && list_all (is_between 0x21 0x7e) bytes

abbrev pub value_of : List ℕ → Result (List ℕ) FaultKind
value_of bytes = if is_value bytes then Ok bytes else Err fault.Value

-- a value behind = (61)
abbrev pub value_in : List ℕ → Result (List ℕ) FaultKind
value_in [] = Err fault.Value
value_in (b ∷ bytes) = if b == 61 then value_of bytes else Err fault.Value
