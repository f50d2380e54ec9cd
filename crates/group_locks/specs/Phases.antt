-- The begin of a phase.
use Rattle.ds_model.specs.declared.script.Phase.{Phase}
use Rattle.group_core.specs.Given.{PhaseBegins}
use Rattle.group_core.specs.Given.{CrewState}
use Rattle.lock_protocol.specs.Machine.{World}
use Rattle.group_locks.specs.Events.{Moves, OfPhase}
use Rattle.group_locks.specs.Stands.{LocksTied}

-- each member that begins its restart with it is live again; no other changes, and no claims do
abbrev pub PhasesMove : Type 0
PhasesMove = (phase : Phase) (old new : CrewState) (w : World) → LocksTied old w → PhaseBegins phase old new → Moves OfPhase old new w
