-- Given out again: what the crates above take from those below this one.
pub use Rattle.group_core.specs.Given.{AllRestart, BeginsAnew, ComesAt, Crew, CrewState, GroupFails, PhaseBegins, Restarts, begins_restart, crew_state, fail_counted, is_own, is_ready_in, lists_begun, member_at, ready_for, unlooked}
pub use Rattle.group_core.specs.declared.fault.RunFault.{RunFault}
pub use Rattle.group_core.specs.declared.fault.RunFault.TheVariants as fault_variants
pub use Rattle.group_core.specs.declared.group.Group.{Group}
pub use Rattle.group_core.specs.Events.{takes}
pub use Rattle.group_core.specs.Fresh.{IsLooked, RunsFresh, TakesFresh}
pub use Rattle.group_core.specs.Restarts.{EntersRestart, RestartSteps}
pub use Rattle.group_core.specs.Starts.{AllKnowDisk, IsFresh, IsOpenedTo, drive_of}
pub use Rattle.group_core.specs.Takes.{BeginsOrNot, IsMade, Takes, TakesMember, TakesOwn, world_of}
pub use Rattle.group_logs.specs.Changes.{AreNumbered, LogsChangeBy, LogsGo, MemberLogs}
pub use Rattle.group_logs.specs.Known.{AnewKnow, EndsHold, StartsKnow}
pub use Rattle.group_logs.specs.Logs.{IsNumbered}
pub use Rattle.failed_logs.specs.Given.{AllEvents, AreCounted, IsDown, IsSafe, LocksTied, Member, MemberPart, MemberStands, Moves, OfGroup, RestartInHand, RestartStands, Restarting, StandsBeside, Whose, known, known_by, member_of}
pub use Rattle.script_phases.specs.Progresses.{has_groupfail, has_phase, own_choice}
pub use Rattle.script_phases.specs.declared.progress.Progress.{Progress}
