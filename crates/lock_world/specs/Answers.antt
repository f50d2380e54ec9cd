-- An answer to a query, as the claims of the member give it.
use Rattle.std.specs.Prelude.{◌≡◌, ◌≢◌, ℕ, ◌≤◌, true, false, [], ◌∷◌}
use Rattle.ds_base.specs.Ids.{IsMember}
use Rattle.ds_model.specs.declared.lock.Name.{Name}
use Rattle.lock_names.specs.declared.mode.Mode.{Mode}
use Rattle.lock_structure.specs.Locks.{Locks, entry_for}
use Rattle.list_structure.specs.declared.query.Cell.TheVariants as cell
use Rattle.list_structure.specs.declared.query.CellAnswer.{CellAnswer}
use Rattle.list_structure.specs.declared.query.CellAnswer.TheVariants as said
use Rattle.list_structure.specs.Askers.{slot_of}
use Rattle.list_structure.specs.Cells.{AreCells, with_cell}
use Rattle.list_structure.specs.States.{ListsState}
use Rattle.lock_manager.specs.Claims.{is_in_way}
use Rattle.lock_protocol.specs.Machine.{World}
use Rattle.lock_protocol.specs.Moves.{AnswerClean, AnswerConflict}
use Rattle.lock_world.specs.Numbers.{number}
use Rattle.lock_world.specs.Views.{is_live_in}
use Rattle.lock_world.specs.Tied.{Claims, Tied, Moved}

-- none of these claims is in the way of the mode
abbrev pub NoneInWay : Claims → ℕ → Name → Mode → Type 0
NoneInWay held k n mode = (q : ℕ) → is_in_way (held k q (number n)) mode ≡ false

-- no claim that the member knows of is in the way; of claims of its failure it knows nothing
abbrev pub AnswersClean : Type 0
AnswersClean = (w : World) (locks : Locks) (lists after : ListsState) (held : Claims) (k m slot event : ℕ) (n : Name) (mode : Mode)
    → Tied w locks lists held → IsMember m → slot ≤ 16 → IsMember k → is_live_in lists k ≡ true → k ≤ lists.members → NoneInWay held k n mode
    → AreCells after.cells (with_cell lists.cells (slot_of m slot) k (cell.Answered n mode said.Clean (entry_for locks n).version event)) → after ≡ record lists { cells = after.cells }
    → Moved w (AnswerClean k m slot (number n) mode ∷ []) locks locks after held

abbrev pub AnswersConflict : Type 0
AnswersConflict = (w : World) (locks : Locks) (lists after : ListsState) (held : Claims) (k m slot version event : ℕ) (n : Name) (mode : Mode) (x : CellAnswer)
    → Tied w locks lists held → IsMember m → slot ≤ 16 → IsMember k → x ≢ said.Clean
    → AreCells after.cells (with_cell lists.cells (slot_of m slot) k (cell.Answered n mode x version event)) → after ≡ record lists { cells = after.cells }
    → Moved w (AnswerConflict k m slot (number n) mode ∷ []) locks locks after held
