-- The moves that change cells alone.
use Rattle.std.specs.Prelude.{◌≡◌, ℕ, ◌≤◌, [], ◌∷◌}
use Rattle.ds_base.specs.Ids.{IsMember}
use Rattle.ds_model.specs.declared.lock.Name.{Name}
use Rattle.lock_names.specs.declared.mode.Mode.{Mode}
use Rattle.lock_structure.specs.Locks.{Locks}
use Rattle.list_structure.specs.declared.query.Cell.TheVariants as cell
use Rattle.list_structure.specs.Askers.{slot_of}
use Rattle.list_structure.specs.Cells.{AreCells, with_cell, emptied}
use Rattle.list_structure.specs.States.{ListsState}
use Rattle.lock_protocol.specs.Machine.{World}
use Rattle.lock_protocol.specs.Moves.{Ask, Refuse}
use Rattle.lock_world.specs.Numbers.{number}
use Rattle.lock_world.specs.Tied.{Claims, Tied, Moved}

abbrev pub AsksMoves : Type 0
AsksMoves = (w : World) (locks : Locks) (lists after : ListsState) (held : Claims) (m slot to : ℕ) (n : Name) (mode : Mode)
    → Tied w locks lists held → IsMember m → slot ≤ 16 → IsMember to
    → AreCells after.cells (with_cell lists.cells (slot_of m slot) to (cell.Asked n mode)) → after ≡ record lists { cells = after.cells }
    → Moved w (Ask m slot to (number n) mode ∷ []) locks locks after held

-- a grant that isn't given
abbrev pub RefusesMoves : Type 0
RefusesMoves = (w : World) (locks : Locks) (lists after : ListsState) (held : Claims) (m slot : ℕ)
    → Tied w locks lists held → IsMember m → slot ≤ 16
    → AreCells after.cells (emptied lists.cells (slot_of m slot)) → after ≡ record lists { cells = after.cells }
    → Moved w (Refuse m slot ∷ []) locks locks after held
