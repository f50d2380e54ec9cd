-- The input cut in two: a script, if one stands in front, and a report.
use Rattle.std.specs.Prelude.{ℕ, Bool, true, false, ◌&&◌, ◌==◌, ◌-◌, if◌then◌else◌, List, [], ◌∷◌, length, min, take, codes}
use Rattle.std.specs.Str.{bytes_eq}

-- the first line of each report; no line of a script is like it
abbrev pub first_line : List ℕ
first_line = codes "dsgroup 1\n"

abbrev pub begins_report : Bool → List ℕ → Bool
begins_report is_begin bytes = is_begin && bytes_eq (take (min (length bytes) 10) bytes) first_line

-- what follows from the first line on that is the first of a report; whether a line begins here is given
abbrev pub report_in : Bool → List ℕ → List ℕ
report_in is_begin [] = []
report_in is_begin (b ∷ bytes) = if begins_report is_begin (b ∷ bytes) then b ∷ bytes else report_in (b == 10) bytes

abbrev pub or_all : List ℕ → List ℕ → List ℕ
or_all [] bytes = bytes
or_all (b ∷ rest) bytes = b ∷ rest
