-- The begin of a phase, with the restarts of the members that it brings back.
use Rattle.ds_model.specs.declared.script.Phase.{Phase}
use Rattle.group_pages.specs.Given.{Drive, LocksTied}
use Rattle.group_core.specs.Given.{CrewState, PhaseBegins}
use Rattle.lock_protocol.specs.Machine.{World as LockWorld}
use Rattle.page_protocol.specs.Moves.{World}
use Rattle.group_pages.specs.Events.{PageMoves}
use Rattle.group_pages.specs.Stands.{PagesTied}

-- each restart that begins is a move; nothing else is
abbrev pub PhasesGo : Type 0
PhasesGo = (d : Drive) (phase : Phase) (old new : CrewState) (l : LockWorld) (w : World) → LocksTied old l → PhaseBegins phase old new → PagesTied d old w → PageMoves d new w
