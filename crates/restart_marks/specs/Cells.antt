-- What other members have answered about the page's lock.
use Rattle.std.specs.Prelude.{ℕ, ◌+◌, ◌==◌, nat_lt, Bool, true, false, not, ◌&&◌, ◌||◌, if◌then◌else◌, List, [], ◌∷◌}
use Rattle.std.specs.Int.{bit_at}
use Rattle.list_structure.specs.declared.query.Cell.{Cell}
use Rattle.list_structure.specs.declared.query.Cell.TheVariants as cell
use Rattle.list_structure.specs.declared.query.CellAnswer.{CellAnswer}
use Rattle.list_structure.specs.declared.query.CellAnswer.TheVariants as answer
use Rattle.restart_marks.specs.declared.cells.Sum.{Sum}
use Rattle.restart_marks.specs.declared.told.RestartTold.{RestartTold}
use Rattle.restart_marks.specs.declared.told.RestartTold.TheVariants as told

-- whether the member of this cell was asked
abbrev pub is_asked : ℕ → ℕ → Bool
is_asked asked at = nat_lt at 32 && (bit_at asked at == 1)

abbrev pub is_open : Cell → Bool
is_open cell.Empty = false
is_open (cell.Asked n m) = true
is_open (cell.Answered n m a version event) = false

abbrev pub is_clean : CellAnswer → Bool
is_clean answer.Clean = true
is_clean (answer.Conflict by) = false
is_clean (answer.Postponed m) = false

-- the member is to be asked again
abbrev pub is_emptied : Cell → Bool
is_emptied cell.Empty = true
is_emptied (cell.Asked n m) = false
is_emptied (cell.Answered n m a version event) = not (is_clean a)

abbrev pub added : Sum → Cell → Sum
added sum c = record { is_open = sum.is_open || is_open c; is_emptied = sum.is_emptied || is_emptied c }

-- what the cells from the one of this number on add
abbrev pub summed : List Cell → ℕ → ℕ → Sum → Sum
summed [] at asked sum = sum
summed (c ∷ cs) at asked sum = summed cs (at + 1) asked (if is_asked asked at then added sum c else sum)

abbrev pub no_sum : Sum
no_sum = record { is_open = false; is_emptied = false }

abbrev pub sum_told : Sum → RestartTold
sum_told sum = told.Cells sum.is_open sum.is_emptied

abbrev pub answers_told : ℕ → List Cell → RestartTold
answers_told asked cells = sum_told (summed cells 0 asked no_sum)
