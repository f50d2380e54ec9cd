-- The logs of a group behind an event of a member in which no call of the disk has failed.
use Rattle.std.specs.Prelude.{◌≡◌, ℕ, ◌+◌, false, Some, IfSome}
use Rattle.std.specs.List.{AllByRecursion}
use Rattle.ds_disk.specs.Contents.{Contents, log_of}
use Rattle.restart_records.specs.declared.trans.RestartStage.TheVariants as stage
use Rattle.restart_records.specs.declared.trans.RestartTran.{RestartTran}
use Rattle.lock_protocol.specs.Machine.{World}
use Rattle.failed_logs.specs.Given.{Member}
use Rattle.failed_logs.specs.Given.{has_failed}
use Rattle.group_core.specs.Given.{CrewState}
use Rattle.failed_logs.specs.Given.{Moves, OfMember}
use Rattle.failed_logs.specs.Given.{StepsAt}
use Rattle.failed_logs.specs.Given.{RestartMoves, RestartStepsAt}
use Rattle.failed_logs.specs.Given.{RestingMoves, RestingStepsAt}
use Rattle.failed_logs.specs.Given.{LocksTied}
use Rattle.claimed_logs.specs.Logs.{LogsClaimed}

-- one that is up
abbrev pub UpEventsLogged : Type 0
UpEventsLogged = (c d : Contents) (old new : CrewState) (at : ℕ) (m n : Member) (w : World)
    → LocksTied old w → (e : StepsAt old new at m n) → has_failed e.stepped ≡ false → e.drive.contents ≡ Some c → e.left.contents ≡ Some d
    → (moves : Moves (OfMember m.id) old new w) → LogsClaimed c old w → LogsClaimed d new moves.world

-- where its restart counts no transaction as left, each is over
abbrev pub CountsLeft : Member → Type 0
CountsLeft m = IfSome m.restart (λ q. q.resources.marks.trans.left ≡ 0 → AllByRecursion (λ (x : RestartTran). x.stage ≡ stage.Over) q.resources.marks.trans.list)

-- the restart of one that restarts
abbrev pub RestartEventsLogged : Type 0
RestartEventsLogged = (c d : Contents) (old new : CrewState) (at : ℕ) (m n : Member) (w : World)
    → LocksTied old w → (e : RestartStepsAt old new at m n w) → e.drive.contents ≡ Some c → e.left.contents ≡ Some d
    → (moves : RestartMoves old new w m n e.sent) → CountsLeft m → LogsClaimed c old w → LogsClaimed d new moves.moves.world

-- any other event of one that restarts
abbrev pub RestingEventsLogged : Type 0
RestingEventsLogged = (c d : Contents) (old new : CrewState) (at : ℕ) (m n : Member) (w : World)
    → LocksTied old w → (e : RestingStepsAt old new at m n) → has_failed e.stepped ≡ false → e.drive.contents ≡ Some c → e.left.contents ≡ Some d
    → (moves : RestingMoves old new w m n) → LogsClaimed c old w → LogsClaimed d new moves.moves.world
