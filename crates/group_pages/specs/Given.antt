-- Given out again: what the crates above take from those below this one.
pub use Rattle.page_owners.specs.Given.{Drive, Member, Group, SameOthers, Shows, Fallen, Resources, Restarts, Stepped, Makes, is_over, Breaks, Steps, has_failed, RestartHeld, frees_claimed, cast_of, FailuresGo, GroupGoes, AreDrawnTo, FallsTo, GroupsFall, remains, PagesNumbered, copy_in, copy_of, HasCast, RestartsGo, Held, kept_of, told_once, GoesOn, HandsOver, RestartEnds, RestartGoesOn, Takes, Tells, as_restarting, AreBehind, IsUp, ToldGoes, SendsLawfully, Acts, is_failure, CommandsStay, LeavesMember, world_of, MemberPart, Comes, member_of, is_fail}
pub use Rattle.page_owners.specs.Resting.{DownIsBare, IsEmpty, IsBare, RestsBare, RestsLeave, casts_out}
pub use Rattle.page_owners.specs.Owners.{AreInX, OwnInX, ToldInX}
pub use Rattle.page_owners.specs.Casting.{RestsKeepCast, CastLeads, CastsGo, SameCast}
pub use Rattle.restart_owners.specs.Given.{LogIsWhole, RestartSent, RunsCommand, FreesSent, known_with, RestartState, IsNew, IsReading, ReadingBegins, adopted_as, may_adopt, RestartIntent, KeptBy, up_after, need_of, over_test, recovered_test, rest_test, Tested, after, passed, when, with_trans, TransState, no_trans, page_undone, RestartHolds, with_marks, is_hand, lent_bytes, Follows, HasHandedOver, RestartsFollow, Sets, StandingsFollow, LocksRestart, Knows, Leads, LocalsStay, IsOver, Begins, IsRestarting}
pub use Rattle.restart_owners.specs.Stages.{StageTells, HasLeft, InBoth, StageEnds, StageGoes, StagesGo, InPages, PagesStay, StageCasts, StageStays}
pub use Rattle.restart_owners.specs.Owners.{HasFailed, OwnersFail, OwnersStand, OwnsFailed, RestartsBegin, OwnsRestarting}
pub use Rattle.restart_owners.specs.Listing.{ListingBegins, IsListing, ListingGoes}
pub use Rattle.restart_owners.specs.Ends.{EndsFree}
pub use Rattle.restart_owners.specs.Events.{IsTold}
pub use Rattle.restart_owners.specs.Undrawn.{IsUndrawn, UndrawnBegins, UndrawnCasts, UndrawnGoes, UndrawnTells}
pub use Rattle.group_locks.specs.Stands.{LocksTied, MemberStands, known, known_by, RestartInHand, RestartStands}
pub use Rattle.group_locks.specs.Whole.{FailsAt}
pub use Rattle.group_locks.specs.Restarts.{RestartStepsAt}
pub use Rattle.group_locks.specs.Resting.{RestingStepsAt, is_restart}
pub use Rattle.group_locks.specs.Taken.{AdoptedClaim}
pub use Rattle.group_locks.specs.Given.{known_of, or_else, restart_claim, LeadsTo, FailuresGo as LocksFail}
pub use Rattle.page_rebuilds.specs.Rebuilds.{EventsGo as RebuildsGo}
pub use Rattle.page_owners.specs.Given.stepped_variants
pub use Rattle.restart_owners.specs.Given.restart_intent
pub use Rattle.restart_owners.specs.Given.restart_sent
pub use Rattle.restart_owners.specs.Given.lock_stands
pub use Rattle.restart_owners.specs.Given.restart_test
pub use Rattle.restart_owners.specs.Given.restart_events
pub use Rattle.rebuild_resources.specs.declared.intent.RebuildSent.{RebuildSent}
