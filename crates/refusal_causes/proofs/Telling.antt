-- What cells say that is in the way.
use Rattle.std.proofs.Common.{◌≡◌, inl, ℕ, suc, ◌+◌, Bool, true, false, List, [], ◌∷◌, Option, Some, None, refl, sym}
use Rattle.std.specs.Prelude.{slice_get, if◌then◌else◌}
use Rattle.ds_model.specs.declared.lock.Name.{Name}
use Rattle.ds_model.specs.declared.fate.Refusal.TheVariants as refusal
use Rattle.lock_names.specs.declared.mode.Mode.{Mode}
use Rattle.list_structure.specs.declared.query.Cell.{Cell}
use Rattle.list_structure.specs.declared.query.Cell.TheVariants as cell
use Rattle.list_structure.specs.declared.query.CellAnswer.{CellAnswer}
use Rattle.list_structure.specs.declared.query.CellAnswer.TheVariants as answer
use Rattle.facility.specs.LockCommands.{is_about}
use Rattle.member_trans.specs.declared.fate.Owner.{Owner}
use Rattle.member_marks.specs.State.{MarksState}
use Rattle.member_effects.specs.declared.answers.Said.{Said}
use Rattle.member_effects.specs.declared.answers.Said.TheVariants as said
use Rattle.member_effects.specs.declared.answers.Sum.{Sum}
use Rattle.member_effects.specs.Answers.{said_in_answer, said_by, is_asked, added, is_found, summed, nothing, in_the_way_after, found_after, answered_after}
use Rattle.refusal_causes.proofs.Either.{either}
use Rattle.refusal_causes.proofs.Known.{Claim, KnownIn, QuietIn, quiet_known, unmade_known}

-- what is to be known where this answer about the name is in the way, which this event has given
abbrev pub IsAnswerKnown : Claim → Name → CellAnswer → ℕ → Type 0
IsAnswerKnown K n answer.Clean event = Unit {0}
IsAnswerKnown K n (answer.Conflict by) event = (number : ℕ) → K number (refusal.Held n by) event
IsAnswerKnown K n (answer.Postponed m) event = (number : ℕ) → K number (refusal.Retained n m) event

-- the same of a cell, where it is about the need
abbrev pub IsCellKnown : Claim → Name → Mode → Cell → Type 0
IsCellKnown K n m cell.Empty = Unit {0}
IsCellKnown K n m (cell.Asked asked asked_mode) = Unit {0}
IsCellKnown K n m (cell.Answered asked asked_mode it version event) = is_about n m asked asked_mode ≡ true → IsAnswerKnown K n it event

abbrev pub AreCellsKnown : Claim → Name → Mode → List Cell → Type 0
AreCellsKnown K n m [] = Unit {0}
AreCellsKnown K n m (c ∷ cs) = IsCellKnown K n m c × AreCellsKnown K n m cs

pub cells_known : (K : Claim) (n : Name) (m : Mode) (cells : List Cell) → ((at : ℕ) (c : Cell) → slice_get cells at ≡ Some c → IsCellKnown K n m c) → AreCellsKnown K n m cells
cells_known K n m [] each = tt
cells_known K n m (c ∷ cs) each = (each 0 c refl, cells_known K n m cs (λ at d is. each (suc at) d is))

-- ---- what is said

abbrev IsSaidKnown : Claim → Name → Said → Type 0
IsSaidKnown K n said.Clean = Unit {0}
IsSaidKnown K n said.Empty = Unit {0}
IsSaidKnown K n said.Open = Unit {0}
IsSaidKnown K n (said.InTheWay it event) = IsAnswerKnown K n it event

in_answer : (K : Claim) (n : Name) (is_of : Bool) (it : CellAnswer) (event : ℕ) → (is_of ≡ true → IsAnswerKnown K n it event) → IsSaidKnown K n (said_in_answer is_of it event)
in_answer K n is_of answer.Clean event known = tt
in_answer K n true (answer.Conflict by) event known = known refl
in_answer K n false (answer.Conflict by) event known = tt
in_answer K n true (answer.Postponed m) event known = known refl
in_answer K n false (answer.Postponed m) event known = tt

by_cell : (K : Claim) (n : Name) (m : Mode) (c : Cell) → IsCellKnown K n m c → IsSaidKnown K n (said_by c n m)
by_cell K n m cell.Empty known = tt
by_cell K n m (cell.Asked asked asked_mode) known = tt
by_cell K n m (cell.Answered asked asked_mode it version event) known = in_answer K n (is_about n m asked asked_mode) it event known

adds : (K : Claim) (n : Name) (sum : Sum) (s : Said) → IsSaidKnown K n sum.found → IsSaidKnown K n s → IsSaidKnown K n (added sum s).found
adds K n sum said.Clean so_far known = so_far
adds K n sum said.Empty so_far known = so_far
adds K n sum said.Open so_far known = so_far
adds K n sum (said.InTheWay it event) so_far known = known

sums : (K : Claim) (n : Name) (m : Mode) (cells : List Cell) (at asked : ℕ) (sum : Sum) → AreCellsKnown K n m cells → IsSaidKnown K n sum.found → IsSaidKnown K n (summed cells at asked n m sum).found
sums K n m [] at asked sum known so_far = so_far
sums K n m (c ∷ cs) at asked sum known so_far =
    let more : IsSaidKnown K n (added sum (said_by c n m)).found = adds K n sum (said_by c n m) so_far (by_cell K n m c known.0) in
    either (λ (u : Sum). IsSaidKnown K n u.found) (is_asked asked at) _ _
    (either (λ (u : Sum). IsSaidKnown K n u.found) (is_found (said_by c n m)) _ _ more (sums K n m cs (at + 1) asked (added sum (said_by c n m)) known.1 more))
    (sums K n m cs (at + 1) asked sum known.1 so_far)

-- ---- the refusal

offers : (K : Claim) (place : ℕ) (s : MarksState) (o : Owner) (n : Name) (it : CellAnswer) (event : ℕ) → IsAnswerKnown K n it event → QuietIn place s → KnownIn K place (in_the_way_after s o n it event)
offers K place s o n answer.Clean event holds quiet = quiet_known K place s.trans quiet
offers K place s o n (answer.Conflict by) event holds quiet = (inl holds, unmade_known K place s.trans quiet, quiet.2)
offers K place s o n (answer.Postponed m) event holds quiet = (inl holds, unmade_known K place s.trans quiet, quiet.2)

finds : (K : Claim) (place : ℕ) (s : MarksState) (o : Owner) (n : Name) (it : Said) → IsSaidKnown K n it → QuietIn place s → KnownIn K place (found_after s o n it)
finds K place s o n said.Clean holds quiet = quiet_known K place s.trans quiet
finds K place s o n said.Empty holds quiet = quiet_known K place s.trans quiet
finds K place s o n said.Open holds quiet = quiet_known K place s.trans quiet
finds K place s o n (said.InTheWay it event) holds quiet = offers K place s o n it event holds quiet

pub answered_known : (K : Claim) (place : ℕ) (s : MarksState) (o : Owner) (n : Name) (m : Mode) (asked : ℕ) (cells : List Cell) → AreCellsKnown K n m cells → QuietIn place s → KnownIn K place (answered_after s o n m asked cells)
answered_known K place s o n m asked cells holds quiet =
    finds K place s o n (summed cells 0 asked n m nothing).found (sums K n m cells 0 asked nothing holds tt) quiet
