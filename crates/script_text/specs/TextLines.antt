-- The lines of a text.
use Rattle.std.specs.Prelude.{ℕ, ◌+◌, ◌-◌, ◌==◌, Bool, if◌then◌else◌, List, [], ◌∷◌, length, take, slice_index, nat_lt, ◌&&◌}

abbrev pub onto : ℕ → List (List ℕ) → List (List ℕ)
onto b [] = (b ∷ []) ∷ []
onto b (piece ∷ rest) = (b ∷ piece) ∷ rest

-- the text cut behind each line feed (10)
abbrev pub pieces : List ℕ → List (List ℕ)
pieces [] = []
pieces (b ∷ bs) = if b == 10 then (b ∷ []) ∷ pieces bs else onto b (pieces bs)

abbrev pub ends_in : ℕ → List ℕ → Bool
ends_in byte bytes = nat_lt 0 (length bytes) && (slice_index bytes (length bytes - 1) == byte)

abbrev pub without_last : List ℕ → List ℕ
without_last bytes = take (length bytes - 1) bytes

-- a piece without its line feed, and without a carriage return (13) directly before that
abbrev pub line_of : List ℕ → List ℕ
line_of piece =
    if ends_in 10 piece then (if ends_in 13 (without_last piece) then without_last (without_last piece) else without_last piece)
    else piece

-- a line's bytes, and how many bytes the text has up to the line's end, with what ends it
pub record TextLine : Type 0 where
  pub bytes : List ℕ
  pub end : ℕ

abbrev pub lines_behind : ℕ → List (List ℕ) → List TextLine
lines_behind before [] = []
lines_behind before (piece ∷ rest) = record { bytes = line_of piece; end = before + length piece } ∷ lines_behind (before + length piece) rest

abbrev pub lines_of : List ℕ → List TextLine
lines_of text = lines_behind 0 (pieces text)
