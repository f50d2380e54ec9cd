-- A phase begins, and with it restarts of members that have failed.
use Rattle.std.specs.Prelude.{◌≡◌, ℕ, ◌+◌, true, IfSome, slice_get}
use Rattle.ds_disk.specs.Contents.{Contents, log_of}
use Rattle.ds_disk.specs.Logs.{LogsAreBytes}
use Rattle.ds_model.specs.declared.script.Phase.{Phase}
use Rattle.restart_law.specs.Reads.{KnowsWhole}
use Rattle.lock_protocol.specs.Machine.{World}
use Rattle.group_core.specs.Given.{PhaseBegins, begins_restart}
use Rattle.group_core.specs.Given.{CrewState}
use Rattle.failed_logs.specs.Given.{Moves, OfPhase}
use Rattle.failed_logs.specs.Given.{LocksTied}
use Rattle.claimed_logs.specs.Logs.{LogsClaimed}

-- each restart that begins was told of whole records alone
abbrev pub BeginKnowing : Contents → Phase → CrewState → CrewState → Type 0
BeginKnowing c phase old new = (at : ℕ)
    → IfSome (slice_get new.members at) (λ n. begins_restart phase old.facility.lists.statuses n.id ≡ true → IfSome n.restart (λ q. KnowsWhole (log_of c.logs (at + 1)) q.resources.marks))

abbrev pub PhasesLogged : Type 0
PhasesLogged = (c : Contents) (phase : Phase) (old new : CrewState) (w : World)
    → LocksTied old w → PhaseBegins phase old new → LogsAreBytes c.logs → BeginKnowing c phase old new
    → (moves : Moves OfPhase old new w) → LogsClaimed c old w → LogsClaimed c new moves.world
