-- Given out again: what the crates above take from those below this one.
pub use Rattle.page_restarts.specs.Reading.{IsReading, LogIsWhole, ReadingBegins, reading}
pub use Rattle.page_restarts.specs.Events.{IsOver}
pub use Rattle.page_restarts.specs.Stands.{Begins, IsRestarting}
pub use Rattle.lock_restarts.specs.Events.{FreesSent}
pub use Rattle.lock_restarts.specs.Stands.{known_with, IsRestarting as LocksRestart, Knows, Leads, LocalsStay}
pub use Rattle.lock_restarts.specs.Stands as lock_stands
pub use Rattle.lock_restarts.specs.Courses.{Follows, HasHandedOver, RestartsFollow, Sets, StandingsFollow}
pub use Rattle.restart_resources.specs.Events.{RunsCommand}
pub use Rattle.restart_resources.specs.Held.{IsNew, Held as RestartHolds, with_marks}
pub use Rattle.restart_resources.specs.Lending.{is_hand, lent_bytes}
pub use Rattle.restart_marks.specs.declared.intent.RestartSent.{RestartSent}
pub use Rattle.restart_marks.specs.State.{RestartState, with_trans}
pub use Rattle.restart_marks.specs.Adopt.{adopted_as, may_adopt}
pub use Rattle.restart_marks.specs.declared.intent.RestartIntent.{RestartIntent}
pub use Rattle.restart_marks.specs.declared.marks.KeptBy.{KeptBy}
pub use Rattle.restart_marks.specs.Locks.{up_after}
pub use Rattle.restart_marks.specs.Needs.{need_of}
pub use Rattle.restart_marks.specs.OwnNeeds.{over_test, recovered_test, rest_test}
pub use Rattle.restart_marks.specs.Tested.{Tested, after, passed, when}
pub use Rattle.restart_records.specs.Trans.{TransState, no_trans, page_undone}
pub use Rattle.page_restarts.specs.Beside.{OthersRestart}
pub use Rattle.restart_resources.specs.Events as restart_events
pub use Rattle.restart_marks.specs.declared.intent.RestartIntent.TheVariants as restart_intent
pub use Rattle.restart_marks.specs.declared.intent.RestartSent.TheVariants as restart_sent
pub use Rattle.restart_marks.specs.declared.intent.RestartTest.TheVariants as restart_test
