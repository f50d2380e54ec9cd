-- Which transaction has which seat, by their numbers.
use Rattle.std.specs.Prelude.{ℕ, ◌+◌, ◌*◌, ◌==◌, ◌&&◌, if◌then◌else◌, nat_le, List, Option, None, slice_index_or}
use Rattle.run_spans.specs.declared.seats.Seats.{Seats}

unfoldable pub nobody : ℕ → ℕ → Option ℕ
nobody member choice = None

unfoldable pub with_holder : ℕ → ℕ → Option ℕ → (ℕ → ℕ → Option ℕ) → ℕ → ℕ → Option ℕ
with_holder member choice number holder m c = if (m == member) && (c == choice) then number else holder m c

-- what a table holds, with the choices from 0 to 16 of each member
unfoldable pub holder_at : List (Option ℕ) → ℕ → ℕ → Option ℕ
holder_at numbers member choice = if nat_le choice 16 then slice_index_or numbers (17 * member + choice) None else None

abbrev pub holder_in : Seats → ℕ → ℕ → Option ℕ
holder_in seats = holder_at seats.numbers.items
