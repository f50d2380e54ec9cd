-- Given out again: what the crates above take from those below this one.
pub use Rattle.group_crew.specs.Crews.{Keeps, unlooked, is_ready_in}
pub use Rattle.group_crew.specs.Happening.{ComesAt, IsRefusedAt, member_at}
pub use Rattle.group_crew.specs.Ready.{ready_at, ready_for, is_own}
pub use Rattle.group_crew.specs.declared.crew.Crew.{Crew}
pub use Rattle.group_crew.specs.Beginning.{AllRestart, PhaseBegins, begins_restart, lists_begun, restarting, BeginsNext, is_left_out_in, Restarts}
pub use Rattle.group_crew.specs.States.{CrewState, crew_state, known_by}
pub use Rattle.group_crew.specs.Failing.{StopsLast, last_begun, BeginsAnew, GroupFails, fail_counted, id_of}
