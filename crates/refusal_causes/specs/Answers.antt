-- That the answers in the cells of queries were given by claims.
use Rattle.std.specs.Prelude.{◌≡◌, ℕ, ◌-◌, ◌%◌, Bool, true, List, ◌∷◌, ◌++◌, length, Option, Some}
use Rattle.ds_base.specs.Ids.{IsMember}
use Rattle.ds_disk.specs.Contents.{Contents}
use Rattle.ds_model.specs.declared.lock.Name.{Name}
use Rattle.lock_names.specs.declared.mode.Mode.{Mode}
use Rattle.cache_structure.specs.Directory.{Directory}
use Rattle.list_structure.specs.declared.query.Asker.{Asker}
use Rattle.list_structure.specs.declared.query.Cell.{Cell}
use Rattle.list_structure.specs.declared.query.Cell.TheVariants as cell
use Rattle.list_structure.specs.declared.query.CellAnswer.{CellAnswer}
use Rattle.list_structure.specs.declared.query.CellAnswer.TheVariants as answer
use Rattle.list_structure.specs.Askers.{IsAsker}
use Rattle.list_structure.specs.Cells.{cell_of}
use Rattle.member_marks.specs.State.{MarksState}
use Rattle.group_member.specs.Members.{Member}
use Rattle.group_core.specs.Given.{member_at}
use Rattle.group_core.specs.declared.group.Group.{Group}
use Rattle.group_core.specs.Starts.{IsFresh}
use Rattle.group_core.specs.Takes.{Takes}
use Rattle.group_core.specs.Fresh.{RunsFresh}
use Rattle.refusal_causes.specs.Causes.{HasClaim, HasPostponed}
use Rattle.refusal_causes.specs.Laws.{is_lawful}

-- the claims of a member say this of the name, in this mode
abbrev pub Says : MarksState → Name → Mode → CellAnswer → Type 0
Says s n m answer.Clean = Unit {0}
Says s n m (answer.Conflict by) = HasClaim s n m by
Says s n m (answer.Postponed by) = HasPostponed s n m by

-- in this event the member k has answered so, by the claims that it had before
pub record AnswersAt {C D P : Type 0} (old : Group D C P) (event : ℕ) (new : Group D C P) (k : ℕ) (n : Name) (m : Mode) (said : CellAnswer) (named : ℕ) : Type 0 where
  pub member : Member
  pub was : member_at old.crew.parts.items (event % 64 - 1) ≡ Some member
  pub its : member.holds.marks.member ≡ k
  pub here : named ≡ length new.journal.items
  pub says : Says member.holds.marks n m said

-- it did so at an event of the journal, before which the run came to the one group, and behind it to the other
pub record Answered {C D P : Type 0} (directory : C → Directory) (alive : D → Bool) (contents : D → Option Contents) (count : D → ℕ) (start : Group D C P) (journal : List ℕ) (last : Group D C P) (k : ℕ) (n : Name) (m : Mode) (said : CellAnswer) (named : ℕ) : Type 0 where
  pub events : List ℕ
  pub event : ℕ
  pub rest : List ℕ
  pub before : Group D C P
  pub after : Group D C P
  pub splits : journal ≡ events ++ event ∷ rest
  pub leads : RunsFresh directory alive contents count start events before
  pub takes : Takes directory alive contents count before event after
  pub goes_on : RunsFresh directory alive contents count after rest last
  pub answers : AnswersAt before event after k n m said named

-- what is known of a cell to the member k
abbrev pub IsGiven : (ℕ → Name → Mode → CellAnswer → ℕ → Type 0) → ℕ → Cell → Type 0
IsGiven K k cell.Empty = Unit {0}
IsGiven K k (cell.Asked n mode) = Unit {0}
IsGiven K k (cell.Answered n mode said version event) = K k n mode said event

-- each answer in a cell of an asker to a member was given so
abbrev pub AreGiven : (ℕ → Name → Mode → CellAnswer → ℕ → Type 0) → List Cell → Type 0
AreGiven K cells = (a : Asker) (k : ℕ) → IsAsker a → IsMember k → IsGiven K k (cell_of cells a k)

-- wherever the events of a journal lead a group that has just started, each answer in a cell was given at one of them, by claims that said so
abbrev pub AnswersGiven : {C D : Type 0} → (P : Type 0) → (C → Directory) → (D → Bool) → (D → Option Contents) → (D → ℕ) → Type 0
AnswersGiven {C} {D} P directory alive contents count =
    (start : Group D C P) (journal : List ℕ) (last : Group D C P) → IsFresh directory start → RunsFresh directory alive contents count start journal last → is_lawful last.fault ≡ true
    → AreGiven (Answered directory alive contents count start journal last) last.crew.facility.lists.cells
