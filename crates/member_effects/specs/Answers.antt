-- What other members have answered.
use Rattle.std.specs.Prelude.{ℕ, ◌+◌, ◌==◌, nat_lt, Bool, true, false, ◌&&◌, if◌then◌else◌, List, [], ◌∷◌}
use Rattle.std.specs.Int.{bit_at}
use Rattle.ds_model.specs.declared.lock.Name.{Name}
use Rattle.ds_model.specs.declared.fate.Refusal.TheVariants as refusal
use Rattle.lock_names.specs.declared.mode.Mode.{Mode}
use Rattle.list_structure.specs.declared.query.Cell.{Cell}
use Rattle.list_structure.specs.declared.query.Cell.TheVariants as cell
use Rattle.list_structure.specs.declared.query.CellAnswer.{CellAnswer}
use Rattle.list_structure.specs.declared.query.CellAnswer.TheVariants as answer
use Rattle.facility.specs.LockCommands.{is_about}
use Rattle.member_trans.specs.declared.fate.Owner.{Owner}
use Rattle.member_needs.specs.Given.{MarksState}
use Rattle.member_needs.specs.Given.{offered}
use Rattle.member_effects.specs.declared.answers.Said.{Said}
use Rattle.member_effects.specs.declared.answers.Said.TheVariants as said
use Rattle.member_effects.specs.declared.answers.Sum.{Sum}
use Rattle.member_effects.specs.declared.told.Told.{Told}
use Rattle.member_effects.specs.declared.told.Told.TheVariants as told

abbrev pub said_in_answer : Bool → CellAnswer → ℕ → Said
said_in_answer is_of answer.Clean event = said.Clean
said_in_answer is_of (answer.Conflict by) event = if is_of then said.InTheWay (answer.Conflict by) event else said.Empty
said_in_answer is_of (answer.Postponed m) event = if is_of then said.InTheWay (answer.Postponed m) event else said.Empty

-- what a cell says about a need; an answer about another one says nothing
abbrev pub said_by : Cell → Name → Mode → Said
said_by cell.Empty n m = said.Empty
said_by (cell.Asked asked_name asked_mode) n m = said.Open
said_by (cell.Answered asked_name asked_mode answer version event) n m = said_in_answer (is_about n m asked_name asked_mode) answer event

-- whether the member of this cell was asked
abbrev pub is_asked : ℕ → ℕ → Bool
is_asked asked at = nat_lt at 32 && (bit_at asked at == 1)

-- what a cell adds to the sum of those before it
abbrev pub added : Sum → Said → Sum
added sum said.Clean = sum
added sum said.Empty = record sum { is_emptied = true }
added sum said.Open = record sum { is_open = true }
added sum (said.InTheWay answer event) = record sum { found = said.InTheWay answer event }

abbrev pub is_found : Said → Bool
is_found said.Clean = false
is_found said.Empty = false
is_found said.Open = false
is_found (said.InTheWay answer event) = true

-- what the cells from the one of this number on say, up to the first that has something in the way
abbrev pub summed : List Cell → ℕ → ℕ → Name → Mode → Sum → Sum
summed [] at asked n m sum = sum
summed (c ∷ cs) at asked n m sum =
    if is_asked asked at
    then (if is_found (said_by c n m) then added sum (said_by c n m) else summed cs (at + 1) asked n m (added sum (said_by c n m)))
    else summed cs (at + 1) asked n m sum

abbrev pub nothing : Sum
nothing = record { is_open = false; is_emptied = false; found = said.Clean }

-- ---- the refusal

abbrev pub in_the_way_after : MarksState → Owner → Name → CellAnswer → ℕ → MarksState
in_the_way_after s o n answer.Clean event = s
in_the_way_after s o n (answer.Conflict by) event = offered s o (refusal.Held n by) event
in_the_way_after s o n (answer.Postponed m) event = offered s o (refusal.Retained n m) event

abbrev pub in_the_way_told : CellAnswer → Told
in_the_way_told answer.Clean = told.Stepped
in_the_way_told (answer.Conflict by) = told.Conflict by
in_the_way_told (answer.Postponed m) = told.Refused

abbrev pub found_after : MarksState → Owner → Name → Said → MarksState
found_after s o n said.Clean = s
found_after s o n said.Empty = s
found_after s o n said.Open = s
found_after s o n (said.InTheWay answer event) = in_the_way_after s o n answer event

abbrev pub sum_told : Sum → Said → Told
sum_told sum said.Clean = told.Cells sum.is_open sum.is_emptied
sum_told sum said.Empty = told.Cells sum.is_open sum.is_emptied
sum_told sum said.Open = told.Cells sum.is_open sum.is_emptied
sum_told sum (said.InTheWay answer event) = in_the_way_told answer

abbrev pub answered_after : MarksState → Owner → Name → Mode → ℕ → List Cell → MarksState
answered_after s o n m asked cells = found_after s o n (summed cells 0 asked n m nothing).found

abbrev pub answered_told : Name → Mode → ℕ → List Cell → Told
answered_told n m asked cells = sum_told (summed cells 0 asked n m nothing) (summed cells 0 asked n m nothing).found
