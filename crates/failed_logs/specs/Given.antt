-- Given out again: what the crates above take from those below this one.
pub use Rattle.group_locks.specs.Events.{Moves, OfPhase, OfMember, MovesSpare, IsFor, Whose, AreBy, OfGroup}
pub use Rattle.group_locks.specs.Stands.{LocksTied, MemberStands, RestartInHand, RestartStands, known, known_by}
pub use Rattle.group_locks.specs.Members.{StepsAt, MemberStepsMoves}
pub use Rattle.group_locks.specs.Restarts.{RestartStepsAt, freed_world, RestartMoves, RestartStepsMove}
pub use Rattle.group_locks.specs.Whole.{FailsAt, GroupFailsTied}
pub use Rattle.group_locks.specs.Taken.{AdoptedClaim}
pub use Rattle.group_locks.specs.Runs.{AllEvents, AreCounted, IsSafe, StandsBeside, FindsClaims, RunsStand}
pub use Rattle.group_locks.specs.Given.{KnowsOwn, LeadsTo, MemberIsUp, StepsGo}
pub use Rattle.group_locks.specs.Adopting.{HaveClaimed, rows_of}
pub use Rattle.left_open.specs.Given.{AllClosed, SlotsStand, HasLocked, IsTaken, name_of, IsUnfailed, RowsLocked}
pub use Rattle.closing_law.specs.Closing.{ArePlain, is_checkpoint}
pub use Rattle.left_open.specs.Logs.{LogLocked, TellsLog, LockedBegins, LockedReaches, LockedStay, LogStays, log_after, pend_after}
pub use Rattle.group_member.specs.Members.{Member, IsDown, member_of}
pub use Rattle.group_member.specs.Stepping.{has_failed, is_failure, is_fail, is_over}
pub use Rattle.group_member.specs.declared.stepped.Stepped.{Stepped}
pub use Rattle.marks_law.specs.Free.{FreeHoldNothing}
pub use Rattle.group_member.specs.Adopting.{AdoptsAll, changes_left, rows_left}
pub use Rattle.group_member.specs.Resting.{NoneInSlots}
pub use Rattle.group_member.specs.Happening.{AdoptsLeft, Steps, GoesOn, RestartEnds, RestartGoesOn, as_restarting, Acts, RebuildEnds, RebuildGoesOn, Rebuilds, Restarts, Takes, Makes, as_rebuilding, Breaks, Comes, RestartSent}
pub use Rattle.group_member.specs.declared.restarting.Restarting.{Restarting}
pub use Rattle.group_member.specs.Entering.{told_once}
pub use Rattle.group_locks.specs.Resting.{RestingMoves, RestingStepsAt, is_restart, RestingStepsMove}
pub use Rattle.group_locks.specs.Phases.{PhasesMove}
pub use Rattle.group_member.specs.declared.stepped.Stepped.TheVariants as stepped_variants
pub use Rattle.group_member.specs.declared.part.MemberPart.{MemberPart}
pub use Rattle.group_member.specs.Happening.restart_sent as restart_sent_module
